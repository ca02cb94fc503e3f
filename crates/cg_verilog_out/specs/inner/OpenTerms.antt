-- A term that is built of the literals of a row, one after another.
use Rattle.std.specs.Prelude.{◌≡◌, ℕ, Bool, true, false, not, if◌then◌else◌, List, map, nat_eq, Option, None, Some}
use Rattle.std.specs.List.{fold}
use Rattle.cg_net.specs.NetSets.{is_in}
use Rattle.cg_net.specs.Names.{NetName, net_name}
use Rattle.cg_verilog_text.specs.CoverForms.{literals_of, with_literal}
use Rattle.cg_verilog_text.specs.Forms.{Literal}
use Rattle.cg_verilog_text.specs.Meaning.{bit_in}

-- what is kept of it: its literals by the names of their nets, the nets that it has plain and those that it has inverted, and
-- whether a net had both bits
pub record Built : Type 0 where
  pub literals : List (Literal NetName)
  pub ones : List ℕ
  pub zeros : List ℕ
  pub ended : Bool

-- a literal by the name of its net
abbrev pub literal_named : List NetName → Literal ℕ → Literal NetName
literal_named names literal = record { net = net_name names literal.net; plain = literal.plain }

-- whether a term gives a net this bit
abbrev pub gives : Bool → Option Bool → Bool
gives bit None = false
gives true (Some given) = given
gives false (Some given) = not given

-- this is kept of a term, if there is one
pub record IsOpen (names : List NetName) (built : Built) (term : Option (List (Literal ℕ))) : Type 0 where
  pub literals : List (Literal ℕ)
  pub named : built.literals ≡ map (literal_named names) literals
  pub ones : (net : ℕ) → is_in built.ones net ≡ gives true (bit_in nat_eq literals net)
  pub zeros : (net : ℕ) → is_in built.zeros net ≡ gives false (bit_in nat_eq literals net)
  pub is : term ≡ (if built.ended then None else Some literals)

-- one place of a row more
abbrev pub with_place : Option (List (Literal ℕ)) → ℕ → Option Bool → Option (List (Literal ℕ))
with_place term net None = term
with_place term net (Some plain) = with_literal nat_eq term (record { net = net; plain = plain })

-- a term so far, which the rest of the row makes the row's
pub record IsPart (names : List NetName) (built : Built) (inputs : List ℕ) (row : List (Option Bool)) (term : Option (List (Literal ℕ)))
    : Type 0 where
  pub so_far : Option (List (Literal ℕ))
  pub open_ : IsOpen names built so_far
  pub rest : fold (with_literal nat_eq) so_far (literals_of inputs row) ≡ term

-- a net that no literal is of, while no net had both bits
pub record IsNew (built : Built) (net : ℕ) : Type 0 where
  pub going : built.ended ≡ false
  pub no_one : is_in built.ones net ≡ false
  pub no_zero : is_in built.zeros net ≡ false
