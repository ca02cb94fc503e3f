-- The name of a role's file, file by file.
use Rattle.std.proofs.Common.{◌≡◌, ℕ, ◌+◌, ◌<◌, if◌then◌else◌, List, length, drop, get_or, map, sym, ap, ◌∙◌, add-one, drop-cons}
use Rattle.cg_run.specs.Names.{file_of, file_seen}
use Rattle.cg_run.specs.Roles.{is_role}
use Rattle.cg_run.specs.declared.names.NamedFile.{NamedFile}
use Rattle.cg_run.specs.declared.role.Role.{Role}

-- the file at k is the role's, or it is one from k + 1 on
pub file_of_drop : (files : List NamedFile) (role : Role) (k : ℕ) (d : NamedFile) → k < length files
    → file_of (map file_seen (drop k files)) role ≡ (if is_role (get_or files k d).role role then (get_or files k d).name.now else file_of (map file_seen (drop (k + 1) files)) role)
file_of_drop files role k d below =
    ap (λ l. file_of (map file_seen l) role) (drop-cons files k d below)
    ∙ ap (λ j. if is_role (get_or files k d).role role then (get_or files k d).name.now else file_of (map file_seen (drop j files)) role) (sym (add-one k))
