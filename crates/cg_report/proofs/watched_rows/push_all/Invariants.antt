use Rattle.std.proofs.Common.{◌≡◌}
use Rattle.cg_report.specs.inner.Watching.{WatchRows}
use Rattle.cg_report.proofs.watched_rows.push_all.Given as goal

abbrev pub invariant-rows : goal.invariant-rows
invariant-rows g l = record {
  watches : WatchRows ((goal.Watcher-dyn g (l.watcher.vtable, l.watcher.value)).stands l.watcher.value) l.fn.player.simulated.circuit l.fn.player.rows l.row l.player l.fn.text.items l.text.items;
  name : (goal.Watcher-dyn g (l.watcher.vtable, l.watcher.value)).called l.watcher.value ≡ (goal.Watcher-dyn g (l.fn.watcher.vtable, l.fn.watcher.value)).called l.fn.watcher.value;
  kind : (goal.Watcher-dyn g (l.watcher.vtable, l.watcher.value)).says l.watcher.value ≡ (goal.Watcher-dyn g (l.fn.watcher.vtable, l.fn.watcher.value)).says l.fn.watcher.value;
}
