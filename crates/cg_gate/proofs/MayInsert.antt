-- The plan's machine of what may be gated may be inserted.
use Rattle.std.proofs.Common.{◌≡◌, ◌≢◌, ℕ, IsTrue, List, [], ◌∷◌, ◌++◌, map, length, Option, None, Some, refl}
use Rattle.std.proofs.Common.{sym, ◌∙◌, ap, subst}
use Rattle.std.specs.Fmt.{decimal}
use Rattle.std.specs.List.{All, AllByRecursion, range_with_len}
use Rattle.std.specs.Option.{option_to_list}
use Rattle.std.proofs.lemmas.Bool.{both_ways}
use Rattle.std.proofs.lemmas.List.Elements.{All-get_or, All-map}
use Rattle.std.proofs.lemmas.Option.{unwrap_or-slice_get}
use Rattle.cg_cell.specs.Cell.{IsCell}
use Rattle.cg_cell.specs.Name.{is_name}
use Rattle.cg_extract.proofs.Kept.{kept_within}
use Rattle.cg_extract.specs.Lifted.{bare, kept_nets}
use Rattle.cg_gate_laws.specs.Gated.{CanGate, Gating, planned}
use Rattle.cg_gate_laws.proofs.NetlistKept.{keeps_netlist, names_planned}
use Rattle.cg_insert.specs.Insert.{enables_of, gate_names}
use Rattle.cg_machine.specs.Added.{own_netlist}
use Rattle.cg_machine.specs.Machine.{MachineData, added_name, additions}
use Rattle.cg_machine.specs.Start.{begins}
use Rattle.cg_netlist.specs.Circuit.{Circuit}
use Rattle.cg_net.specs.Names.{net_name}
use Rattle.cg_net.proofs.Members.{All-from_members}
use Rattle.cg_netlist.proofs.Each.{by_recursion, each_together, from_recursion}
use Rattle.cg_gate.specs.Proper.{IsProper}
use Rattle.cg_gate.specs.Request.{IsFree, MayGate, RequestData, gating_of}
use Rattle.cg_machine.proofs.Started.{begun}

module _ (request : RequestData) (c : Circuit) (proper : IsProper request) (may : MayGate request c) where
  abbrev by : Gating
  by = gating_of request c

  abbrev n : MachineData
  n = planned (gating_of request c) c

  -- no name that is made of the prefix is a free one
  apart : (name : List ℕ) → IsFree c request.prefix name → (k : ℕ) → added_name n k ≢ name
  apart name free k same = both_ways (begins request.prefix name) free.apart (ap (begins request.prefix) (sym same ∙ ap (λ p. p ++ decimal k) (names_planned by c may.start may.hints).1) ∙ begun request.prefix (decimal k))

  none_added : (name : List ℕ) → IsFree c request.prefix name → (ks : List ℕ) → AllByRecursion (λ (other : List ℕ). other ≢ name) (map (added_name n) ks)
  none_added name free [] = tt
  none_added name free (k ∷ ks) = (apart name free k, none_added name free ks)

  -- each net that is kept has a name of the netlist
  kept_names : (name : List ℕ) → IsFree c request.prefix name → AllByRecursion (λ (other : List ℕ). other ≢ name) (bare c).names
  kept_names name free =
      let P : List ℕ → Type 0 = λ other. other ≢ name in
      let each : All (λ x. P (net_name c.names x)) (kept_nets c) = All-from_members (λ x. P (net_name c.names x)) (kept_nets c) (λ x kept.
      subst P (sym (unwrap_or-slice_get c.names x [])) (All-get_or P c.names x [] (kept_within c may.start.netlist x kept) free.new)) in
      by_recursion P (bare c).names (All-map P (net_name c.names) (kept_nets c) each)

  new : (name : List ℕ) → request.test ≡ Some name → All (λ other. other ≢ name) (n.circuit.names ++ gate_names n)
  new name is =
      let free = may.free name is in
      let P : List (List ℕ) → Type 0 = λ names. AllByRecursion (λ (other : List ℕ). other ≢ name) names in
      let own : P (own_netlist n).names = subst P (ap (λ (d : Circuit). d.names) (sym (keeps_netlist by c may.start may.hints))) (kept_names name free) in
      let all : P n.circuit.names = subst P (sym (names_planned by c may.start may.hints).0) (each_together (λ other. other ≢ name) (own_netlist n).names (map (added_name n) (range_with_len 0 (additions n))) own (none_added name free (range_with_len 0 (additions n)))) in
      from_recursion (λ other. other ≢ name) (n.circuit.names ++ gate_names n) (each_together (λ other. other ≢ name) n.circuit.names (gate_names n) all (none_added name free (range_with_len (additions n) (length (enables_of n)))))

  named : (test : Option (List ℕ)) → ((name : List ℕ) → test ≡ Some name → IsTrue (is_name name)) → AllByRecursion (λ name. IsTrue (is_name name)) (option_to_list test)
  named None is = tt
  named (Some name) is = (is name refl, tt)

  pub may_gate : CanGate (gating_of request c) c
  may_gate = record {
    start = may.start;
    lifts = may.lifts;
    own = may.placeable.gating;
    cells = from_recursion IsCell request.library proper.cells;
    tested = may.tested;
    named = from_recursion (λ name. IsTrue (is_name name)) (option_to_list request.test) (named request.test proper.named);
    new = new;
    hints = may.hints;
    untested = may.untested;
  }
