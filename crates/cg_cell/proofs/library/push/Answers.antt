use Rattle.std.proofs.Common.{◌≡◌, ℕ, List, ◌++◌, ◌∷◌, [], None, ◌∙◌, ap, sym, subst}
use Rattle.std.specs.Map.{lookup}
use Rattle.std.specs.Str.{bytes_eq}
use Rattle.indexmap.proofs.CallerLemmas.{insert_entry-new}
use Rattle.std.specs.Map.{values_of}
use Rattle.cg_cell.specs.Library.{AreNamed}
use Rattle.cg_cell.proofs.Libraries.{AreNamed-push, none_there, values-push}
use Rattle.cg_cell.proofs.library.push.Goals as goal

-- the key has the bytes of the cell's name
key : (c : goal.Joined-branch-3) → c.in_ok-key.key.items ≡ c.args.cell.name
key c = c.in_ok-key.ensures.items ∙ c.bytes.ensures.bytes ∙ c.name.ensures.name

-- the entries after the call
entries : (c : goal.Joined-branch-3) → c.insert.new.self.entries ≡ c.args.cells.now.entries ++ (c.in_ok-key.key, c.args.cell) ∷ []
entries c =
    let none = none_there (λ k. k.items) c.args.cell.name c.args.cells.now.entries c.requires.named c.requires.absent in
    c.in_ok-insert.ensures.entries ∙ insert_entry-new (λ k l. bytes_eq k.items l.items) c.args.cells.now c.in_ok-key.key c.args.cell
    (subst (λ (name : List ℕ). lookup (λ k. bytes_eq name k.items) c.args.cells.now.entries ≡ None) (sym (key c)) none)

pub returns-clause-named : goal.returns-clause-named
returns-clause-named c = subst (AreNamed (λ k. k.items)) (sym (entries c)) (AreNamed-push (λ k. k.items) c.args.cells.now.entries c.in_ok-key.key c.args.cell c.requires.named (key c))

pub returns-clause-added : goal.returns-clause-added
returns-clause-added c = ap values_of (entries c) ∙ values-push c.args.cells.now.entries c.in_ok-key.key c.args.cell
