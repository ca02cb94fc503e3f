use Rattle.std.proofs.Common.{◌≡◌, drop, map}
use Rattle.std.specs.List.{position_from}
use Rattle.std.specs.Str.{bytes_eq}
use Rattle.cg_command_line.proofs.options.place_of.Given as goal

abbrev pub invariant-watchers : goal.invariant-watchers
invariant-watchers l = position_from (λ watcher. bytes_eq watcher l.name) l.place (map (λ name. name.now) (drop l.place l.watchers)) ≡ position_from (λ watcher. bytes_eq watcher l.name) 0 (map (λ name. name.now) l.watchers)
