use Rattle.std.proofs.Common.{◌≡◌, drop, map}
use Rattle.cg_net.specs.Names.{with_names}
use Rattle.cg_verilog.proofs.telling.Telling.put_updated.Given as goal

abbrev pub invariant-updates : goal.invariant-updates
invariant-updates l = record {
  left : with_names l.self.updated (map (λ update. update.net) (drop l.update-index l.updates)) ≡ with_names l.fn.self.updated (map (λ update. update.net) l.updates);
  rest : l.self ≡ record l.fn.self { updated = l.self.updated };
}
