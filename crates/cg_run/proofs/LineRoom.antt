-- How long the lines of refusals are, by the longest name.
use Rattle.std.proofs.Common.{◌≡◌, ◌≤◌, ◌+◌, ℕ, Bool, true, false, List, [], ◌∷◌, ◌++◌, length, length-append, lit≤, max, arith}
use Rattle.std.specs.Prelude.{codes, if◌then◌else◌}
use Rattle.cg_limit.specs.declared.Limit.{Limit}
use Rattle.cg_limit.specs.declared.Limit.TheVariants as limits
use Rattle.cg_run.specs.declared.refusal.Refusal.{Refusal}
use Rattle.cg_run.specs.declared.refusal.Refusal.TheVariants as refusals
use Rattle.cg_run.specs.declared.role.Role.{Role}
use Rattle.cg_run.specs.Names.{File, Files, file_of, longest_name}
use Rattle.cg_run.specs.Refusal.{HasRoom, complaint_line, limit_text}
use Rattle.cg_run.specs.Roles.{is_role}

line_length : (reason : List ℕ) → length (complaint_line reason) ≡ length reason + 12
line_length reason =
    let whole : length (codes "clockgate: " ++ reason ++ 10 ∷ []) ≡ length (codes "clockgate: " ++ reason) + 1 = length-append (codes "clockgate: " ++ reason) (10 ∷ []) in
    let front : length (codes "clockgate: " ++ reason) ≡ 11 + length reason = length-append (codes "clockgate: ") reason in
    omega (arith, whole, front)

loaded_line : (longest : ℕ) (name : List ℕ) → length name ≤ longest → length (complaint_line (codes "read fault " ++ name)) ≤ longest + 64
loaded_line longest name within =
    let line = line_length (codes "read fault " ++ name) in
    let reason : length (codes "read fault " ++ name) ≡ 11 + length name = length-append (codes "read fault ") name in
    omega (arith, line, reason, within)

stored_line : (longest : ℕ) (name : List ℕ) → length name ≤ longest → length (complaint_line (codes "write fault " ++ name)) ≤ longest + 64
stored_line longest name within =
    let line = line_length (codes "write fault " ++ name) in
    let reason : length (codes "write fault " ++ name) ≡ 12 + length name = length-append (codes "write fault ") name in
    omega (arith, line, reason, within)

short_line : (longest n : ℕ) → n ≤ 64 → n ≤ longest + 64
short_line longest n within = omega (arith, within)

limit_line : (longest : ℕ) (limit : Limit) → length (complaint_line (codes "limit " ++ limit_text limit)) ≤ longest + 64
limit_line longest limits.File = short_line longest 22 (lit≤ tt)
limit_line longest limits.Nets = short_line longest 22 (lit≤ tt)
limit_line longest limits.Registers = short_line longest 27 (lit≤ tt)
limit_line longest limits.CoverInputs = short_line longest 30 (lit≤ tt)
limit_line longest limits.LibraryCells = short_line longest 31 (lit≤ tt)
limit_line longest limits.Nesting = short_line longest 25 (lit≤ tt)
limit_line longest limits.ClaimNodes = short_line longest 29 (lit≤ tt)
limit_line longest limits.Rows = short_line longest 22 (lit≤ tt)
limit_line longest limits.Variables = short_line longest 27 (lit≤ tt)

line_room : (names : Role → List ℕ) (longest : ℕ) → ((role : Role) → length (names role) ≤ longest) → (refusal : Refusal) → HasRoom names (longest + 64) refusal
line_room names longest within (refusals.Content content) = tt
line_room names longest within (refusals.Limit limit) = limit_line longest limit
line_room names longest within (refusals.Load role) = loaded_line longest (names role) (within role)
line_room names longest within (refusals.Store role) = stored_line longest (names role) (within role)
line_room names longest within refusals.Say = short_line longest 25 (lit≤ tt)
line_room names longest within (refusals.NoMemory step) = short_line longest 21 (lit≤ tt)

-- no role's file has a longer name than the longest
first_within : (a b : ℕ) → a ≤ max a b
first_within a b = omega arith

later_within : (a b c : ℕ) → c ≤ b → c ≤ max a b
later_within a b c within = omega (arith, within)

file_within : (file : File) (rest : Files) (role : Role) (same : Bool) → length (file_of rest role) ≤ longest_name rest → length (if same then file.name else file_of rest role) ≤ max (length file.name) (longest_name rest)
file_within file rest role true there = first_within (length file.name) (longest_name rest)
file_within file rest role false there = later_within (length file.name) (longest_name rest) (length (file_of rest role)) there

none_within : (n : ℕ) → 0 ≤ n
none_within n = omega arith

are_within : (files : Files) (role : Role) → length (file_of files role) ≤ longest_name files
are_within [] role = none_within 0
are_within (file ∷ rest) role = file_within file rest role (is_role file.role role) (are_within rest role)

-- with 64 bytes more than the longest name has, the line of each refusal but that of a content has room
pub room_of : (files : Files) (refusal : Refusal) → HasRoom (file_of files) (longest_name files + 64) refusal
room_of files refusal = line_room (file_of files) (longest_name files) (are_within files) refusal

more_length : (room more n : ℕ) → room ≤ more → n ≤ room → n ≤ more
more_length room more n within has = omega (arith, within, has)

pub more_room : (names : Role → List ℕ) (room more : ℕ) (refusal : Refusal) → room ≤ more → HasRoom names room refusal → HasRoom names more refusal
more_room names room more (refusals.Content content) within has = tt
more_room names room more (refusals.Limit limit) within has = more_length room more _ within has
more_room names room more (refusals.Load role) within has = more_length room more _ within has
more_room names room more (refusals.Store role) within has = more_length room more _ within has
more_room names room more refusals.Say within has = more_length room more _ within has
more_room names room more (refusals.NoMemory step) within has = more_length room more _ within has
