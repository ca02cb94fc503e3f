use Rattle.std.proofs.Common.{◌≡◌, length}
use Rattle.std.specs.List.{AllPass}
use Rattle.cg_blif.specs.Physical.{is_read, without_end}
use Rattle.cg_blif.proofs.lines.trimmed.Given as goal

abbrev pub invariant-blanks : goal.invariant-blanks
invariant-blanks l = record {
  trimmed : without_end l.rest ≡ without_end l.line;
  read : AllPass is_read l.rest;
}

abbrev pub decreases-blanks : goal.decreases-blanks
decreases-blanks l = length l.rest
