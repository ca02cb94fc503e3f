-- Roles as numbers, and lists of different roles.
use Rattle.std.specs.Prelude.{ℕ, Bool, true, false, nat_eq, not, ◌&&◌, ◌||◌, List, [], ◌∷◌}
use Rattle.cg_run.specs.declared.role.Role.{Role}
use Rattle.cg_run.specs.declared.role.Role.TheVariants as roles

abbrev pub role_number : Role → ℕ
role_number roles.Library = 0
role_number roles.Netlist = 1
role_number roles.Stimulus = 2
role_number roles.Formula = 3
role_number roles.Log = 4
role_number roles.Out = 5
role_number roles.Proof = 6
role_number roles.Report = 7
role_number roles.Verilog = 8
role_number roles.Registers = 9
role_number roles.Hints = 10

abbrev pub is_role : Role → Role → Bool
is_role a b = nat_eq (role_number a) (role_number b)

abbrev pub is_among : Role → List Role → Bool
is_among role [] = false
is_among role (other ∷ rest) = is_role other role || is_among role rest

abbrev pub are_distinct : List Role → Bool
are_distinct [] = true
are_distinct (role ∷ rest) = not (is_among role rest) && are_distinct rest
