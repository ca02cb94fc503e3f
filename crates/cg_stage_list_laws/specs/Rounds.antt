-- Which registers a round leaves out, by the stages that were tried before.
use Rattle.std.specs.Prelude.{ℕ, Bool, true, false, ◌&&◌, ◌||◌, if◌then◌else◌, List, [], ◌∷◌, map, nat_eq, Option, Some, None}
use Rattle.std.specs.Prelude.{option_and_then}
use Rattle.std.specs.List.{list_any}
use Rattle.cg_net.specs.NetSets.{is_in}
use Rattle.cg_machine.specs.Claims.{Literal}
use Rattle.cg_machine.specs.declared.stage.Earlier.{Earlier}
use Rattle.cg_machine.specs.declared.stage.Stage.{Stage}
use Rattle.cg_machine.specs.declared.stage.StageKind.{StageKind}
use Rattle.cg_machine.specs.declared.stage.StageKind.TheVariants.{Hold, Stable, Unseen}

-- whether two kinds of stages are the same
abbrev pub same_kind : StageKind → StageKind → Bool
same_kind Hold Hold = true
same_kind Stable Stable = true
same_kind Unseen Unseen = true
same_kind _ _ = false

-- whether two enables are the same, or both absent
abbrev pub same_option : Option ℕ → Option ℕ → Bool
same_option None None = true
same_option (Some a) (Some b) = nat_eq a b
same_option _ _ = false

-- whether a list is empty
abbrev pub is_empty : List ℕ → Bool
is_empty [] = true
is_empty (x ∷ xs) = false

-- nets as plain literals
abbrev pub plain_literals : List ℕ → List Literal
plain_literals nets = map (λ y. (y, false)) nets

-- a register is left out where it stood in an earlier stage of the kind that was inserted, or that had the key it has now
abbrev pub left_out : {K : Type 0} → StageKind → (K → Stage → Bool) → List Earlier → ℕ → K → Bool
left_out kind had earlier r key =
    list_any (λ e. same_kind e.stage.kind kind && is_in e.stage.regs r && (e.inserted || had key e.stage)) earlier

-- the key of a register that is not left out
abbrev pub kept_key : {K : Type 0} → StageKind → (K → Stage → Bool) → List Earlier → (ℕ → Option K) → ℕ → Option K
kept_key kind had earlier key r = option_and_then (λ k. if left_out kind had earlier r k then None else Some k) (key r)
