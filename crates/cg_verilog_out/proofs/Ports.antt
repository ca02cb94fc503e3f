-- Outputs that are inputs, where the inputs are kept as a set.
use Rattle.std.proofs.Common.{[], ◌≡◌, ℕ, Bool, false, List, ◌∷◌, refl, ap, sym, ◌∙◌, cond, Some, option_map, Result, Ok, Err, inl, inr}
use Rattle.std.specs.List.{find}
use Rattle.std.proofs.lemmas.Bool.{both_ways, cases_Bool}
use Rattle.cg_net.specs.NetSets.{is_in, with_nets}
use Rattle.cg_net.specs.Names.{net_name}
use Rattle.cg_net.proofs.FoundNets.{only_these, put_all}
use Rattle.cg_netlist.specs.Circuit.{Circuit}
use Rattle.cg_verilog_out.specs.Refusing.{ArePorts, PortsAreLookedAt}
use Rattle.cg_verilog_out.specs.declared.fault.VerilogOutFault.{VerilogOutFault}
use Rattle.cg_verilog_out.specs.declared.fault.VerilogOutFault.TheVariants.{BadName, PortTwice, NoMemory}

put_alone : (nets : List ℕ) (net : ℕ) → is_in (with_nets [] nets) net ≡ is_in nets net
put_alone nets net = elim (cases_Bool (is_in nets net)) [
  | inl there ↦ put_all [] nets net there ∙ sym there
  | inr none ↦ elim (cases_Bool (is_in (with_nets [] nets) net)) [
    | inl there ↦ elim (only_these [] nets net there) [
      | inl before ↦ absurd (both_ways false refl before)
      | inr here ↦ absurd (both_ways (is_in nets net) none here)
    ]
    | inr out ↦ out ∙ sym none
  ]
]

find_same : (p q : ℕ → Bool) → ((x : ℕ) → p x ≡ q x) → (xs : List ℕ) → find p xs ≡ find q xs
find_same p q same [] = refl
find_same p q same (x ∷ xs) = ap (λ b. cond b (Some x) (find p xs)) (same x) ∙ ap (λ o. cond (q x) (Some x) o) (find_same p q same xs)

pub same_ports : (c : Circuit) (r : Result (Unit {0}) VerilogOutFault) → ArePorts c.names (with_nets [] c.inputs) c.outputs r → PortsAreLookedAt c r
same_ports c (Ok done) is = ap (option_map (net_name c.names)) (sym (find_same (is_in (with_nets [] c.inputs)) (is_in c.inputs) (put_alone c.inputs) c.outputs) ∙ is)
same_ports c (Err (BadName name)) is = is
same_ports c (Err (PortTwice net)) is = ap (option_map (net_name c.names)) (sym (find_same (is_in (with_nets [] c.inputs)) (is_in c.inputs) (put_alone c.inputs) c.outputs)) ∙ is
same_ports c (Err NoMemory) is = tt
