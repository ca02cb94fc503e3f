-- The name of each role's file.
use Rattle.std.specs.Prelude.{ℕ, max, if◌then◌else◌, List, [], ◌∷◌, length, map}
use Rattle.cg_run.specs.Roles.{is_role}
use Rattle.cg_run.specs.declared.names.NamedFile.{NamedFile}
use Rattle.cg_run.specs.declared.names.Names.{Names}
use Rattle.cg_run.specs.declared.role.Role.{Role}

-- the files of a run, each by its role and its name
pub record File : Type 0 where
  pub role : Role
  pub name : List ℕ

abbrev pub Files : Type 0
Files = List File

-- the name of a role's file; a file that the words do not give has the empty name
abbrev pub file_of : Files → Role → List ℕ
file_of [] role = []
file_of (file ∷ files) role = if is_role file.role role then file.name else file_of files role

-- how long the longest name is
abbrev pub longest_name : Files → ℕ
longest_name [] = 0
longest_name (file ∷ files) = max (length file.name) (longest_name files)

-- the names that the program keeps, as the words that they are
abbrev pub file_seen : NamedFile → File
file_seen file = record { role = file.role; name = file.name.now }

abbrev pub files_of : Names → Files
files_of names = map file_seen names.files.items

abbrev pub name_of : Names → Role → List ℕ
name_of names = file_of (files_of names)
