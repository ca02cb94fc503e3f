use Rattle.std.proofs.Common.{◌≡◌, map, take}
use Rattle.cg_tool.proofs.watching.names_of.Given as goal

abbrev pub invariant-watchers : goal.invariant-watchers
invariant-watchers g l = map (λ name. name.now) l.names.items ≡ map (λ w. (goal.Watcher-dyn g (w.vtable, w.value)).called w.value) (take l.watcher-index l.watchers)
