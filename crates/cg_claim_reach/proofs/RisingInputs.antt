-- The data inputs of a machine rise in their order, so the inputs of two cones together do where they are put in order.
use Rattle.std.proofs.Common.{◌≡◌, ℕ, ◌<◌, Bool, true, false, ◌||◌, ◌&&◌, List, ◌++◌}
use Rattle.std.proofs.Common.{length, refl, sym, ◌∙◌, ap}
use Rattle.std.specs.List.{filter, range_with_len}
use Rattle.cg_netlist.specs.Circuit.{cell_nets, data_inputs, drivers, given_nets}
use Rattle.cg_net.specs.NetSets.{is_in}
use Rattle.cg_netlist.proofs.Given.{data_given}
use Rattle.cg_net.proofs.Members.{All-member, is_in-append, is_in_left}
use Rattle.cg_netlist.specs.inner.Rising.{Rises}
use Rattle.cg_netlist.proofs.RisingNumbers.{range_rises}
use Rattle.cg_netlist.proofs.RisingPlaces.{rising_same}
use Rattle.cg_machine.specs.Machine.{IsMachine, MachineData}
use Rattle.cg_claim_reach.proofs.Filtering.{in_filtered, in_ranged}
use Rattle.cg_netlist_cone.proofs.ConeEdge.{kept_rises}
use Rattle.cg_claim.proofs.Reached.{and_first}

snd_or : (d a b : Bool) → ((d && a) || (d && b)) ≡ (d && (a || b))
snd_or true a b = refl
snd_or false a b = refl

module _ (m : MachineData) (good : IsMachine m) (nets more : List ℕ) where
  abbrev data_ins : List ℕ
  data_ins = data_inputs m.circuit

  abbrev both : ℕ → Bool
  both y = is_in nets y || is_in more y

  module _ (one other numbers : List ℕ) (one_is : one ≡ filter (is_in nets) data_ins) (other_is : other ≡ filter (is_in more) data_ins) (all : numbers ≡ one ++ other) where
    members : (x : ℕ) → is_in numbers x ≡ is_in (filter both data_ins) x
    members x =
        ap (λ l. is_in l x) all ∙ (is_in-append one other x
        ∙ (ap (λ b. b || is_in other x) (ap (λ l. is_in l x) one_is ∙ in_filtered (is_in nets) data_ins x)
        ∙ (ap (λ b. (is_in data_ins x && is_in nets x) || b) (ap (λ l. is_in l x) other_is ∙ in_filtered (is_in more) data_ins x)
        ∙ (snd_or (is_in data_ins x) (is_in nets x) (is_in more x) ∙ sym (in_filtered both data_ins x)))))

    within : (x : ℕ) → is_in numbers x ≡ true → x < length m.circuit.names
    within x among =
        let input : is_in data_ins x ≡ true = and_first (is_in data_ins x) (both x) (sym (in_filtered both data_ins x) ∙ (sym (members x) ∙ among)) in
        All-member (λ net. net < length m.circuit.names) (drivers m.circuit) x good.well_formed.driven.nets (is_in_left (given_nets m.circuit) (cell_nets m.circuit) x (data_given m.circuit x input))

    -- the inputs of two cones, put in order
    pub both_inputs_are : Rises 0 data_ins → (inputs : List ℕ) → ((n : ℕ) → ((x : ℕ) → is_in numbers x ≡ true → x < n) → inputs ≡ filter (is_in numbers) (range_with_len 0 n)) → inputs ≡ filter both data_ins
    both_inputs_are rises inputs ordered =
        let n = length m.circuit.names in
        ordered n within ∙ rising_same (filter (is_in numbers) (range_with_len 0 n)) (filter both data_ins) 0 0 (range_rises (is_in numbers) n 0) (kept_rises both 0 data_ins rises)
        (λ x. in_ranged (is_in numbers) n x within ∙ members x)
