-- Texts that are put under different names stand there.
use Rattle.std.proofs.Common.{◌≡◌, ◌≢◌, ℕ, Bool, true, false, IsTrue, if◌then◌else◌, List, [], ◌∷◌, ◌++◌, Option, None, Some, refl, ◌∙◌, ap}
use Rattle.std.specs.Prelude.{IfSome}
use Rattle.std.specs.Str.{bytes_eq}
use Rattle.std.proofs.lemmas.Slice.Eq.{bytes_eq-Decides}
use Rattle.cg_gate.specs.Gating.{where_asked}
use Rattle.cg_gate.specs.declared.gate.Texts.{Texts}
use Rattle.cg_run.specs.Writes.{put_under, puts}
use Rattle.cg_run.specs.declared.writing.Text.{Text}
use Rattle.cg_run.specs.declared.role.Role.{Role}
use Rattle.cg_run.specs.declared.role.Role.TheVariants as roles
use Rattle.cg_run.proofs.Steps.{put_here}
use Rattle.cg_tool.specs.Gate.{gate_output, text_for}

put_apart : (held : List ℕ → Option (List ℕ)) (name bytes other : List ℕ) → other ≢ name → put_under held name bytes other ≡ held other
put_apart held name bytes other apart = go (bytes_eq other name) refl
  where
    go : (same : Bool) → bytes_eq other name ≡ same → (if same then Some bytes else held other) ≡ held other
    go true same = absurd (apart ((bytes_eq-Decides other name).0 same))
    go false same = refl

-- a text is asked for where it is there
pub asked_so : (asked : Bool) (text whole : List ℕ) → where_asked asked whole ≡ Some text → IsTrue asked
asked_so true text whole is = refl
asked_so false text whole is = absurd (cc)

pub if_some : (o : Option (List ℕ)) (P Q : List ℕ → Type 0) → ((text : List ℕ) → o ≡ Some text → P text → Q text) → IfSome o P → IfSome o Q
if_some None P Q step h = tt
if_some (Some text) P Q step h = step text refl h

module _ (names : Role → List ℕ) where
  puts_both : (first second : List Text) (held : List ℕ → Option (List ℕ)) → puts names (first ++ second) held ≡ puts names second (puts names first held)
  puts_both [] second held = refl
  puts_both (text ∷ first) second held = puts_both first second (put_under held (names text.role) text.bytes)

  -- a text that is there stands under its name, and leaves what stands under another
  stands : (role : Role) (text : Option (List ℕ)) (held : List ℕ → Option (List ℕ)) → IfSome text (λ bytes. puts names (text_for role text) held (names role) ≡ Some bytes)
  stands role None held = tt
  stands role (Some bytes) held = put_here held (names role) bytes

  leaves : (role : Role) (text : Option (List ℕ)) (held : List ℕ → Option (List ℕ)) (name : List ℕ) → ((bytes : List ℕ) → text ≡ Some bytes → name ≢ names role) → puts names (text_for role text) held name ≡ held name
  leaves role None held name apart = refl
  leaves role (Some bytes) held name apart = put_apart held (names role) bytes name (apart bytes refl)

  module _ (held : List ℕ → Option (List ℕ)) (texts : Texts) where
    -- what is held once the netlist is put, and then the proof file, the report and the Verilog text, one after the other
    abbrev first : List ℕ → Option (List ℕ)
    first = put_under held (names roles.Out) texts.out

    abbrev second : List ℕ → Option (List ℕ)
    second = puts names (text_for roles.Proof texts.proof) first

    abbrev third : List ℕ → Option (List ℕ)
    third = puts names (text_for roles.Report texts.report) second

    abbrev fourth : List ℕ → Option (List ℕ)
    fourth = puts names (text_for roles.Verilog texts.verilog) third

    abbrev last : List ℕ → Option (List ℕ)
    last = puts names (gate_output texts).stores held

    after : (name : List ℕ) → last name ≡ puts names (text_for roles.Registers texts.registers) fourth name
    after name =
        let proof = text_for roles.Proof texts.proof in
        let report = text_for roles.Report texts.report in
        let verilog = text_for roles.Verilog texts.verilog in
        let registers = text_for roles.Registers texts.registers in
        let three : puts names (proof ++ report ++ verilog) first ≡ fourth = puts_both (proof ++ report) verilog first ∙ ap (puts names verilog) (puts_both proof report first) in
        ap (λ (h : List ℕ → Option (List ℕ)). h name) (puts_both (proof ++ report ++ verilog) registers first ∙ ap (puts names registers) three)

    -- the file of this role has another name than one that is also stored
    abbrev Apart : Role → Role → Option (List ℕ) → Type 0
    Apart role other text = (bytes : List ℕ) → text ≡ Some bytes → names role ≢ names other

    -- what stands under a name of its own once a text is put is there at the end
    from_last : (role : Role) → Apart role roles.Registers texts.registers → last (names role) ≡ fourth (names role)
    from_last role registers = after (names role) ∙ leaves roles.Registers texts.registers fourth (names role) registers

    from_fourth : (role : Role) → Apart role roles.Verilog texts.verilog → Apart role roles.Registers texts.registers → last (names role) ≡ third (names role)
    from_fourth role verilog registers = from_last role registers ∙ leaves roles.Verilog texts.verilog third (names role) verilog

    from_third : (role : Role) → Apart role roles.Report texts.report → Apart role roles.Verilog texts.verilog → Apart role roles.Registers texts.registers → last (names role) ≡ second (names role)
    from_third role report verilog registers = from_fourth role verilog registers ∙ leaves roles.Report texts.report second (names role) report

    pub out_stands : Apart roles.Out roles.Proof texts.proof → Apart roles.Out roles.Report texts.report → Apart roles.Out roles.Verilog texts.verilog → Apart roles.Out roles.Registers texts.registers → last (names roles.Out) ≡ Some texts.out
    out_stands proof report verilog registers =
        from_third roles.Out report verilog registers ∙ leaves roles.Proof texts.proof first (names roles.Out) proof ∙ put_here held (names roles.Out) texts.out

    -- a text stands under its name, where those behind it have other names
    standing : (role : Role) (text : Option (List ℕ)) (before : List ℕ → Option (List ℕ))
        → ((bytes : List ℕ) → text ≡ Some bytes → last (names role) ≡ puts names (text_for role text) before (names role)) → IfSome text (λ bytes. last (names role) ≡ Some bytes)
    standing role text before stays =
        if_some text (λ bytes. puts names (text_for role text) before (names role) ≡ Some bytes) (λ bytes. last (names role) ≡ Some bytes) (λ bytes is here. stays bytes is ∙ here) (stands role text before)

    pub proof_stands : ((bytes : List ℕ) → texts.proof ≡ Some bytes → Apart roles.Proof roles.Report texts.report) → ((bytes : List ℕ) → texts.proof ≡ Some bytes → Apart roles.Proof roles.Verilog texts.verilog)
        → ((bytes : List ℕ) → texts.proof ≡ Some bytes → Apart roles.Proof roles.Registers texts.registers) → IfSome texts.proof (λ text. last (names roles.Proof) ≡ Some text)
    proof_stands report verilog registers =
        standing roles.Proof texts.proof first (λ bytes is. from_third roles.Proof (report bytes is) (verilog bytes is) (registers bytes is))

    pub report_stands : ((bytes : List ℕ) → texts.report ≡ Some bytes → Apart roles.Report roles.Verilog texts.verilog) → ((bytes : List ℕ) → texts.report ≡ Some bytes → Apart roles.Report roles.Registers texts.registers)
        → IfSome texts.report (λ text. last (names roles.Report) ≡ Some text)
    report_stands verilog registers = standing roles.Report texts.report second (λ bytes is. from_fourth roles.Report (verilog bytes is) (registers bytes is))

    pub verilog_stands : ((bytes : List ℕ) → texts.verilog ≡ Some bytes → Apart roles.Verilog roles.Registers texts.registers) → IfSome texts.verilog (λ text. last (names roles.Verilog) ≡ Some text)
    verilog_stands registers = standing roles.Verilog texts.verilog third (λ bytes is. from_last roles.Verilog (registers bytes is))

    pub registers_stands : IfSome texts.registers (λ text. last (names roles.Registers) ≡ Some text)
    registers_stands = standing roles.Registers texts.registers fourth (λ bytes is. after (names roles.Registers))
