-- The joined enable of a stage that fits is there.
use Rattle.std.proofs.Common.{◌≡◌, ℕ, ◌<◌, true, List, [], ◌∷◌, map, length, nat_eq, None, refl, arith}
use Rattle.std.proofs.lemmas.Bool.{eq-eqb, or_left, or_right}
use Rattle.cg_net.specs.NetSets.{is_in}
use Rattle.cg_machine.specs.Claims.{Literal}
use Rattle.cg_machine.specs.Machine.{IsMachine, IsNet, MachineData}
use Rattle.cg_machine.specs.declared.stage.Stage.{Stage}
use Rattle.cg_stage_laws.specs.Joined.{join_all, join_all_limit}
use Rattle.cg_stage_laws.specs.Stages.{Fits, enable_nets}
use Rattle.cg_stage_laws.proofs.Joins.{Joins, join_there}

module _ (m : MachineData) (s : Stage) (good : IsMachine m) (fits : Fits m s) where
  -- nets joined
  pub joined_there : join_all_limit m (enable_nets s) ≡ None → Joins m (enable_nets s) (join_all m (enable_nets s))
  joined_there room = go s.enable fits.enabled fits.nets room
    where
      go : (E : List Literal) → 0 < length E → ((y : ℕ) → is_in (map (λ (l : Literal). l.0) E) y ≡ true → IsNet m y) → join_all_limit m (map (λ (l : Literal). l.0) E) ≡ None → Joins m (map (λ (l : Literal). l.0) E) (join_all m (map (λ (l : Literal). l.0) E))
      go [] some nets room = absurd (omega arith)
      go (l ∷ E) some nets room =
          join_there (record { machine = m; net = l.0 }) good (nets l.0 (or_left (nat_eq l.0 l.0) (is_in (map (λ (k : Literal). k.0) E) l.0) (eq-eqb l.0 l.0 refl)))
          (map (λ (k : Literal). k.0) E) (λ y among. nets y (or_right (nat_eq y l.0) (is_in (map (λ (k : Literal). k.0) E) y) among)) room
