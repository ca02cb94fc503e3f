-- The inits that a text gives, as far as it was read.
use Rattle.std.specs.Prelude.{ℕ, Bool, true, false, not, ◌&&◌, if◌then◌else◌, List, [], ◌∷◌, ◌++◌}
use Rattle.std.specs.List.{list_all}
use Rattle.cg_net.specs.Names.{NetName, is_known}
use Rattle.cg_verilog_text.specs.Meaning.{Init, bit_number}

-- the nets that are given inits, each with its first one, and whether one was given a second
pub record GivenInits : Type 0 where
  pub nets : List NetName
  pub values : List ℕ
  pub again : Bool

abbrev pub no_inits : GivenInits
no_inits = record { nets = []; values = []; again = false }

abbrev pub with_init : GivenInits → Init → GivenInits
with_init given init =
    if is_known given.nets init.net then record given { again = true }
    else record given { nets = given.nets ++ init.net ∷ []; values = given.values ++ bit_number init.value ∷ [] }

-- no net is given an init twice, and each is that of a register
abbrev pub are_of : List NetName → GivenInits → Bool
are_of registers given = not given.again && list_all (is_known registers) given.nets
