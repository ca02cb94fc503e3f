-- Parts without a fault make a netlist by their numbers.
use Rattle.std.proofs.Common.{◌≡◌, ◌≢◌, ℕ, zero, suc, ◌+◌, ◌<◌, ◌==◌, true, false, cond, List, [], ◌∷◌, ◌++◌, Option, Some, None}
use Rattle.std.proofs.Common.{map, length, slice_get, is_none, refl, ap, ◌∙◌, subst, arith}
use Rattle.std.specs.List.{AllByRecursion, AllPairs, cons_option, filter_map, position_from}
use Rattle.std.specs.Option.{option_map, option_map_or, option_to_list}
use Rattle.std.specs.Str.{bytes_eq}
use Rattle.std.proofs.lemmas.List.{length-map}
use Rattle.std.proofs.lemmas.Option.{slice_get-map}
use Rattle.cg_netlist.specs.Circuit.{Circuit, GatingCell, LogicCell}
use Rattle.cg_net.specs.Names.{NetName, is_known, net_name}
use Rattle.cg_netlist.specs.Netlist.{IsNetlist}
use Rattle.cg_netlist.specs.Ranks.{driving_cell, driving_cells, next_rank, rank_of, rank_within, is_unranked}
use Rattle.cg_netlist.specs.Chains.{chain, chain_cell}
use Rattle.cg_netlist_builder.specs.inner.Heard.{IsHeard, IsReady}
use Rattle.cg_netlist_builder.specs.inner.Numbers.{Numbers, driving_gater, gate_above, gater_rank, made_of, ordered_numbers, roots_by}
use Rattle.cg_netlist_builder.specs.inner.Numbers.{wired_numbers}
use Rattle.cg_netlist_parts.specs.Faults.{IsFaultless}
use Rattle.cg_netlist_parts.specs.Part.{Part, wired}
use Rattle.cg_netlist_parts.specs.Said.{Said, said}
use Rattle.cg_netlist_parts.specs.Says.{Says, netlist_of}
use Rattle.cg_netlist.specs.Wiring.{Wiring}
use Rattle.cg_netlist_parts.specs.Part as parts_of
use Rattle.cg_netlist.proofs.RankLemmas.{next_rank-agree}
use Rattle.cg_netlist_parts.proofs.AtLeastOne.{says_made}
use Rattle.cg_netlist_parts.proofs.Different.{apart_from}
use Rattle.cg_netlist.proofs.Each.{each}
use Rattle.cg_netlist_parts.proofs.Kept.{RegisterNets}
use Rattle.cg_netlist_builder.proofs.NumbersMade.{made_is, wired_within}
use Rattle.cg_netlist_parts.proofs.SaidIsNetlist.{apart_nets, said_is_netlist}

module _ (model : NetName) (n : Numbers) (heard : IsHeard model n) (fine : IsFaultless heard.parts) where
  made : netlist_of model heard.parts ≡ made_of model n
  made = made_is heard.parts n heard.numbers heard.heard fine.clocked model

  pub says_own : Says model heard.parts (made_of model n)
  says_own = subst (Says model heard.parts) made (says_made model heard.parts heard.taken fine)

  pub makes_netlist : IsNetlist (made_of model n)
  makes_netlist = said_is_netlist model heard.parts (made_of model n) heard.taken says_own

  pub ready : IsReady n
  ready =
      let different : AllPairs (λ name other. name ≢ other) (map (net_name n.names) (ordered_numbers n)) = makes_netlist.well_formed.different in
      record {
        numbers = heard.numbers;
        once = apart_nets (net_name n.names) (ordered_numbers n) (apart_from (map (net_name n.names) (ordered_numbers n)) different);
        few = omega (arith, makes_netlist.nets, length-map (ordered_numbers n) (net_name n.names));
        clocked = each (RegisterNets (λ x. x < length n.names)) (λ r. r.clock < length n.names) (λ r within. within.clock) (wired_numbers n).registers (wired_within heard.parts n heard.numbers heard.heard fine.clocked).registers;
      }

-- parts that have said the same say the same netlist
abbrev roots_said : Said → List NetName
roots_said s = roots_by bytes_eq s.clocks s.gaters s.registers

pub says_alike : (model : NetName) (p q : List Part) (c : Circuit) → said p ≡ said q → Says model p c → Says model q c
says_alike model p q c same says = record {
  model_is = says.model_is;
  wired_is = says.wired_is ∙ ap wired_said same;
  rooted = subst (λ s. AllByRecursion (λ net. (slice_get (roots_said s) 0 ≡ Some net) × (is_known (s.inputs ++ s.clocks) net ≡ true)) (roots_said s)) same says.rooted;
  formed = says.formed;
  ordered = says.ordered;
  few_nets = omega (arith, says.few_nets, ap (λ s. length s.nets) same);
  few_registers = omega (arith, says.few_registers, ap (λ s. length s.registers) same);
}
  where
    wired_said : Said → Wiring NetName
    wired_said s = record {
      inputs = s.inputs;
      clock = slice_get (roots_said s) 0;
      outputs = s.outputs;
      cells = s.cells;
      gaters = s.gaters;
      registers = map (parts_of.on_clock (slice_get (roots_said s) 0)) s.registers;
    }

-- the rank of a gating cell as a cell over its clock pin
driver_from : (gaters : List (GatingCell ℕ)) (a net : ℕ) → position_from (λ (cell : LogicCell ℕ). cell.output == net) a (chain gaters) ≡ position_from (λ (gater : GatingCell ℕ). gater.output == net) a gaters
driver_from [] a net = refl
driver_from (g ∷ gaters) a net = ap (λ o. cond (g.output == net) (Some a) o) (driver_from gaters (a + 1) net)

pub chain_driver : (gaters : List (GatingCell ℕ)) (net : ℕ) → driving_cell (chain gaters) net ≡ driving_gater gaters net
chain_driver gaters net = driver_from gaters 0 net

above_chain : (gaters : List (GatingCell ℕ)) (k : ℕ) → driving_cells (chain gaters) k ≡ gate_above gaters k
above_chain gaters k =
    ap (λ o. option_map_or (λ (c : LogicCell ℕ). filter_map (driving_cell (chain gaters)) c.inputs) o []) (slice_get-map chain_cell gaters k) ∙ go (slice_get gaters k)
  where
    one : (o : Option ℕ) → cons_option o [] ≡ option_to_list o
    one None = refl
    one (Some j) = refl

    go : (o : Option (GatingCell ℕ)) → option_map_or (λ (c : LogicCell ℕ). filter_map (driving_cell (chain gaters)) c.inputs) (option_map chain_cell o) [] ≡ option_map_or (λ (gater : GatingCell ℕ). option_to_list (driving_gater gaters gater.clock)) o []
    go None = refl
    go (Some g) = one (driving_cell (chain gaters) g.clock) ∙ ap option_to_list (chain_driver gaters g.clock)

all_same : {X : Type 0} (f g : ℕ → X) (js : List ℕ) → ((j : ℕ) → f j ≡ g j) → AllByRecursion (λ j. f j ≡ g j) js
all_same f g [] same = tt
all_same f g (j ∷ js) same = (same j, all_same f g js same)

rank_same : (f g : ℕ → List ℕ) → ((k : ℕ) → f k ≡ g k) → (n k : ℕ) → rank_within f n k ≡ rank_within g n k
rank_same f g same zero k = refl
rank_same f g same (suc n) k =
    ap (λ js. next_rank (map (rank_within f n) js)) (same k) ∙ next_rank-agree (rank_within f n) (rank_within g n) (g k) (all_same (rank_within f n) (rank_within g n) (g k) (λ j. rank_same f g same n j))

pub chain_rank : (gaters : List (GatingCell ℕ)) (k : ℕ) → rank_of (chain gaters) k ≡ gater_rank gaters k
chain_rank gaters k =
    ap (λ m. rank_within (driving_cells (chain gaters)) m k) (length-map gaters chain_cell) ∙ rank_same (driving_cells (chain gaters)) (gate_above gaters) (above_chain gaters) (length gaters) k

pub chain_unranked : (gaters : List (GatingCell ℕ)) (net : ℕ) → is_unranked (chain gaters) net ≡ option_map_or (λ k. is_none (gater_rank gaters k)) (driving_gater gaters net) false
chain_unranked gaters net = go (driving_cell (chain gaters) net) ∙ ap (λ o. option_map_or (λ k. is_none (gater_rank gaters k)) o false) (chain_driver gaters net)
  where
    go : (o : Option ℕ) → option_map_or (λ k. is_none (rank_of (chain gaters) k)) o false ≡ option_map_or (λ k. is_none (gater_rank gaters k)) o false
    go None = refl
    go (Some k) = ap (λ r. is_none r) (chain_rank gaters k)
