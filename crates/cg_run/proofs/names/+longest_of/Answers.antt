use Rattle.std.proofs.Common.{◌≡◌, ◌∷◌, ◌<◌, ◌^◌, ℕ, lit<, max, refl, rules, arith}
use Rattle.cg_run.proofs.RoleLaws.{empty_list}
use Rattle.cg_run.proofs.names.+longest_of.Goals as goal

pub returns-in-None : goal.returns-in-None
returns-in-None t c = rw (empty_list c.args.files.now c.in-None.ensures.cases) (record { longest = refl; within = lit< tt })

below_both : (a b m : ℕ) → a < m → b < m → max a b < m
below_both a b m first second = omega (arith, first, second)

pub returns-in-Some : goal.returns-in-Some
returns-in-Some t c =
    let is : c.args.files.now ≡ c.in-Some.file.now ∷ c.in-Some.rest.now = c.in-Some.ensures.cases.0 in
    rw is (record {
      longest = search rules;
      within = rw c.greater.ensures (below_both c.length_of.result c.longest_of.result (2 ^ 63) c.length_of.ensures.within c.longest_of.ensures.within);
    })
