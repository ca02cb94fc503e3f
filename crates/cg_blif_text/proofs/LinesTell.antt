-- Lines that tell parts, one after another.
use Rattle.std.proofs.Common.{◌≡◌, ℕ, ◌+◌, false, List, [], ◌∷◌, ◌++◌, map, length, Ok, sym, ap, ◌∙◌, arith, append_assoc}
use Rattle.std.specs.List.{flat_map, AllByRecursion}
use Rattle.cg_cell.specs.Cell.{CellData}
use Rattle.cg_cell.specs.Cover.{CoverData}
use Rattle.cg_text.specs.declared.lines.Line.{Line}
use Rattle.cg_text.specs.Written.{numbered}
use Rattle.cg_netlist_parts.specs.Part.{Part}
use Rattle.cg_netlist_parts.specs.Said.{Said}
use Rattle.cg_blif_text.specs.declared.statement.Place.TheVariants.{Named}
use Rattle.cg_blif_text.specs.declared.statement.Statement.{Statement}
use Rattle.cg_blif_text.specs.Blocks.{cut, put_in}
use Rattle.cg_blif_text.specs.Commands.{are_row}
use Rattle.cg_blif_text.specs.Meaning.{meant}
use Rattle.cg_blif_text.specs.Telling.{LinesSaid, cover_or_none, go_on, meant_at, next_model, next_place, rows_behind, said_by}
use Rattle.cg_blif_text.specs.Telling.{tell_blocks, tell_parts, tell_statement, with_parts, with_said}
use Rattle.cg_blif_text.proofs.PinPairs.{Word}
use Rattle.cg_blif_text.proofs.WithinLimits.{with_both}

abbrev pub with_all : LinesSaid → Said → LinesSaid
with_all told t = record { place = told.place; model = told.model; said = t }

-- Behind a `.model` line, lines tell these parts: reading goes on behind them with the parts said, where these pass no limit.
abbrev pub Tell : List CellData → List (List Word) → List Part → Type 0
Tell library lines parts =
    (number : ℕ) (more : List Line) (told : LinesSaid) (t : Said) → (cut more).rows ≡ [] → told.place ≡ Named → with_parts parts told.said ≡ Ok t
    → ((cut (numbered number lines ++ more)).rows ≡ []) × (tell_blocks library (cut (numbered number lines ++ more)).blocks told ≡ tell_blocks library (cut more).blocks (with_all told t))

module _ (library : List CellData) where
  pub tell_none : Tell library [] []
  tell_none number more told t unrowed named is = let same : told.said ≡ t = cc in (unrowed, ap (λ s. tell_blocks library (cut more).blocks (with_all told s)) same)

  pub numbered-append : (number : ℕ) (xs ys : List (List Word)) → numbered number (xs ++ ys) ≡ numbered number xs ++ numbered (number + length xs) ys
  numbered-append number [] ys = let e : number ≡ number + 0 = omega arith in ap (λ n. numbered n ys) e
  numbered-append number (x ∷ xs) ys =
      let e : number + 1 + length xs ≡ number + length (x ∷ xs) = omega arith in
      ap (λ ls. record { number = number; words = x } ∷ ls) (numbered-append (number + 1) xs ys ∙ ap (λ n. numbered (number + 1) xs ++ numbered n ys) e)

  pub tell_both : (xs ys : List (List Word)) (ps qs : List Part) → Tell library xs ps → Tell library ys qs → Tell library (xs ++ ys) (ps ++ qs)
  tell_both xs ys ps qs first second number more told t unrowed named is =
      let both = with_both ps qs told.said t is in
      let back = second (number + length xs) more (with_all told both.middle) t unrowed named both.last in
      let front = first number (numbered (number + length xs) ys ++ more) told both.middle back.0 named both.first in
      let split : numbered number (xs ++ ys) ++ more ≡ numbered number xs ++ (numbered (number + length xs) ys ++ more) = ap (λ ls. ls ++ more) (numbered-append number xs ys) ∙ append_assoc (numbered number xs) (numbered (number + length xs) ys) more in
      (ap (λ ls. (cut ls).rows) split ∙ front.0, ap (λ ls. tell_blocks library (cut ls).blocks told) split ∙ (front.1 ∙ back.1))

  pub tell_each : {X : Type 0} (lines : X → List (List Word)) (parts : X → Part) (xs : List X) → AllByRecursion (λ x. Tell library (lines x) (parts x ∷ [])) xs → Tell library (flat_map lines xs) (map parts xs)
  tell_each lines parts [] all = tell_none
  tell_each lines parts (x ∷ xs) all = tell_both (lines x) (flat_map lines xs) (parts x ∷ []) (map parts xs) all.0 (tell_each lines parts xs all.1)

  -- a line that is a command: what it means behind a `.model` line, and the parts that it says
  pub record Says (words : List Word) (statement : Statement) (cover : CoverData) (rows : List Line) (parts : List Part) : Type 0 where
    pub command : are_row words ≡ false
    pub means : meant words ≡ Ok statement
    pub stands : meant_at Named (Ok statement) ≡ Ok statement
    pub goes_on : next_place Named statement ≡ Named
    pub keeps : (model : Word) → next_model model statement ≡ model
    pub covers : rows_behind statement rows ≡ Ok cover
    pub tells : said_by library cover statement ≡ Ok parts

  pub command_told : (number : ℕ) (words : List Word) (statement : Statement) (cover : CoverData) (rows : List Line) (parts : List Part) (told : LinesSaid) (t : Said) → Says words statement cover rows parts → told.place ≡ Named
      → with_parts parts told.said ≡ Ok t → tell_statement library told number rows (meant_at told.place (meant words)) ≡ Ok (with_all told t)
  command_told number words statement cover rows parts told t says named is =
      ap (λ m. tell_statement library told number rows (meant_at told.place m)) says.means
      ∙ (ap (λ p. tell_statement library told number rows (meant_at p (Ok statement))) named
      ∙ (ap (tell_statement library told number rows) says.stands
      ∙ (ap (λ r. tell_parts told number statement r (with_said told.said (said_by library (cover_or_none r) statement))) says.covers
      ∙ (ap (λ r. tell_parts told number statement (Ok cover) (with_said told.said r)) says.tells
      ∙ (ap (λ r. tell_parts told number statement (Ok cover) r) is
      ∙ (ap (λ p. Ok (record { place = next_place p statement; model = next_model told.model statement; said = t })) named
      ∙ (ap (λ p. Ok (record { place = p; model = next_model told.model statement; said = t })) says.goes_on
      ∙ (ap (λ m. Ok (record { place = Named; model = m; said = t })) (says.keeps told.model)
      ∙ ap (λ p. Ok (record { place = p; model = told.model; said = t })) (sym named)))))))))

  pub line_tells : (words : List Word) (statement : Statement) (cover : CoverData) (parts : List Part) → Says words statement cover [] parts → Tell library (words ∷ []) parts
  line_tells words statement cover parts says number more told t unrowed named is =
      let head : Line = record { number = number; words = words } in
      let split : cut (head ∷ more) ≡ record { rows = []; blocks = record { head = head; rows = (cut more).rows } ∷ (cut more).blocks } = ap (λ b. put_in b (record { number = number; words = words }) (cut more)) says.command in (
        ap (λ c. c.rows) split,
        ap (λ c. tell_blocks library c.blocks told) split
            ∙ (ap (λ rs. go_on (tell_statement library told number rs (meant_at told.place (meant words))) (tell_blocks library (cut more).blocks)) unrowed
            ∙ ap (λ r. go_on r (tell_blocks library (cut more).blocks)) (command_told number words statement cover [] parts told t says named is)),
      )
