-- The words among hints and deleted clauses.
use Rattle.std.specs.Prelude.{ℕ, ◌^◌, ◌==◌, List, if◌then◌else◌, nat_lt}
use Rattle.cg_text.specs.declared.number.Number.{Number}
use Rattle.cg_text.specs.declared.number.Number.TheVariants.{Small, Large, Misspelled}
use Rattle.cg_text.specs.Numbers.{number_of}
use Rattle.cg_lrat.specs.declared.id.IdToken.{IdToken}
use Rattle.cg_lrat.specs.declared.id.IdToken.TheVariants.{Id, End, Other}

abbrev pub numbered_id : Number → IdToken
numbered_id (Small n) = if n == 0 then End else (if nat_lt n (2 ^ 63) then Id n else Other)
numbered_id Large = Other
numbered_id Misspelled = Other

-- a word among ids: a number from 1 to 2 ^ 63 - 1, or the zero that ends them
abbrev pub id_token : List ℕ → IdToken
id_token word = numbered_id (number_of word)
