use Rattle.std.specs.Prelude.{None}
use Rattle.cg_netlist.proofs.OrderedForm.{in_order, ordered_formed}
use Rattle.cg_netlist.proofs.OrderedHistories.{from_pulled, outputs_pulled, pulled_lawful}
use Rattle.cg_netlist.proofs.history.net_order_keeps_histories.Goals as goal

pub returns : goal.returns
returns c = record {
  formed = λ c good once. (ordered_formed c good once, in_order c good once);
  lawful = λ c good once start wave history lawful. (pulled_lawful c good once start wave history lawful, outputs_pulled c good once start None wave history lawful);
  all = λ c good once start wave history started waves lawful. from_pulled c good once start wave history started waves lawful;
}
