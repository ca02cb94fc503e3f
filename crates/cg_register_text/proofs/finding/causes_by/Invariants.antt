use Rattle.std.proofs.Common.{◌≡◌, length, map}
use Rattle.std.specs.List.{filter, range_with_len}
use Rattle.cg_register_text.specs.Causes.{cause_of}
use Rattle.cg_register_text.specs.Words.{tried_of}
use Rattle.cg_register_text.specs.inner.Finding.{is_measured}
use Rattle.cg_register_text.proofs.finding.causes_by.Given as goal

abbrev pub invariant-loop-number : goal.invariant-loop-number
invariant-loop-number l = record {
  causes : l.causes.items ≡ map (cause_of (tried_of l.told)) (range_with_len 0 l.number);
  next : l.next ≡ length (filter (is_measured (tried_of l.told)) (range_with_len 0 l.number));
}
