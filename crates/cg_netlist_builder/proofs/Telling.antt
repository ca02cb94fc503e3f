-- How a call of a builder answers, and what the builder keeps.
use Rattle.std.proofs.Common.{◌≡◌, ◌<◌, ◌≤◌, nat_lt, if◌then◌else◌, Option, Some, None, Result, Ok, Err, MatchResult, length}
use Rattle.std.proofs.Common.{map, refl, sym, ap, ◌∙◌, subst, arith, inl, inr}
use Rattle.std.proofs.lemmas.Bool.{le-ltb, lt-ltb}
use Rattle.std.proofs.lemmas.List.{length-map, length_push}
use Rattle.std.proofs.lemmas.Option.{none-some}
use Rattle.cg_limit.specs.declared.TheConstants.{MOST_NETS, MOST_REGISTERS}
use Rattle.cg_limit.specs.declared.Limit.{Limit}
use Rattle.cg_limit.specs.declared.Limit.TheVariants.{Nets, Registers}
use Rattle.cg_netlist.specs.declared.fault.AddFault.{AddFault}
use Rattle.cg_netlist.specs.declared.fault.AddFault.TheVariants.{NoMemory}
use Rattle.cg_netlist_builder.specs.inner.Heard.{Fails, Hears, IsHeard, built}
use Rattle.cg_netlist_builder.specs.inner.Mentioned.{IsMentionFault, IsRegisterFault}
use Rattle.cg_netlist_builder.specs.inner.Numbers.{AreNumbers, Numbers, seen}
use Rattle.cg_netlist_builder.specs.inner.Words.{part_said}
use Rattle.cg_netlist_builder.specs.declared.adding.PartWords.{PartWords}
use Rattle.cg_netlist_builder.specs.Building.{IsAnswer, Takes}
use Rattle.cg_netlist_parts.specs.Part.{Part, Register, mentioned}
use Rattle.cg_netlist_parts.specs.Said.{Said, limit_of, with_part}
use Rattle.cg_net.specs.Names.{NetName, net_name, with_names}
use Rattle.cg_netlist_parts.specs.Says.{IsPart}
use Rattle.cg_netlist.specs.Wiring.{map_open}
use Rattle.cg_netlist.specs.Circuit.{RegisterCell}
use Rattle.cg_netlist_builder.proofs.Hearing.{still_heard}

-- the limits
none_passed : (s : Said) → length s.nets ≤ MOST_NETS → length s.registers ≤ MOST_REGISTERS → limit_of s ≡ None
none_passed s nets registers =
    ap (λ b. if b then Some Nets else (if nat_lt MOST_REGISTERS (length s.registers) then Some Registers else None)) (le-ltb MOST_NETS (length s.nets) nets)
    ∙ ap (λ b. if b then Some Registers else None) (le-ltb MOST_REGISTERS (length s.registers) registers)

nets_passed : (s : Said) → MOST_NETS < length s.nets → limit_of s ≡ Some Nets
nets_passed s more = ap (λ b. if b then Some Nets else (if nat_lt MOST_REGISTERS (length s.registers) then Some Registers else None)) (lt-ltb MOST_NETS (length s.nets) more)

registers_passed : (s : Said) → length s.nets ≤ MOST_NETS → MOST_REGISTERS < length s.registers → limit_of s ≡ Some Registers
registers_passed s nets more =
    ap (λ b. if b then Some Nets else (if nat_lt MOST_REGISTERS (length s.registers) then Some Registers else None)) (le-ltb MOST_NETS (length s.nets) nets)
    ∙ ap (λ b. if b then Some Registers else None) (lt-ltb MOST_REGISTERS (length s.registers) more)

-- why a part is refused
pub mention_fails : (n : Numbers) (part : Part) (fault : AddFault) → ((s : Said) → (with_part s part).nets ≡ with_names s.nets (mentioned part)) → IsMentionFault (with_names n.names (mentioned part)) fault → Fails n part fault
mention_fails n part fault nets_are (inl memory) = inl memory
mention_fails n part fault nets_are (inr (is, over)) = inr (Nets, is, nets_passed (with_part (seen n) part) (omega (arith, over, ap length (nets_are (seen n)))))

pub register_fails : (n : Numbers) (r : RegisterCell NetName (Option NetName)) (fault : AddFault) → IsRegisterFault (with_names n.names (mentioned (Register r))) (length n.registers) fault → Fails n (Register r) fault
register_fails n r fault (inl mention) = mention_fails n (Register r) fault (λ s. refl) mention
register_fails n r fault (inr (is, few, full)) =
    inr (
      Registers,
      is,
      registers_passed (with_part (seen n) (Register r)) few
          (omega (arith, full, length-map n.registers (map_open (net_name n.names)), length_push (map (map_open (net_name n.names)) n.registers) r)),
    )

-- the same of the words of a call, and of a builder's parts by their view
pub said_by : (n self next : Numbers) (words given : PartWords) (result : Result (Unit {0}) AddFault) → n ≡ self → words ≡ given → AreNumbers self → length self.registers ≤ MOST_REGISTERS
    → (AreNumbers n → length n.registers ≤ MOST_REGISTERS → MatchResult result (λ done. Hears n next (part_said given)) (Fails n (part_said given)))
    → MatchResult result (λ done. Hears self next (part_said words)) (λ fault. Fails self (part_said words) fault)
said_by n self next words given result same are numbers few hears =
    subst (λ m. MatchResult result (λ done. Hears m next (part_said words)) (λ fault. Fails m (part_said words) fault)) same
    (subst (λ w. MatchResult result (λ done. Hears n next (part_said w)) (λ fault. Fails n (part_said w) fault)) (sym are)
    (hears (subst AreNumbers (sym same) numbers) (subst (λ m. length m.registers ≤ MOST_REGISTERS) (sym same) few)))

-- what a call that says a part does
pub record Told (model : NetName) (n next : Numbers) (old refused : Option AddFault) (part : Part) (result : Result (Unit {0}) AddFault) : Type 0 where
  pub takes : Takes (built model n old) part (built model next refused) result
  pub keeps : refused ≡ None → IsHeard model next

pub telling : (model : NetName) (n next : Numbers) (old refused : Option AddFault) (part : Part) (added result : Result (Unit {0}) AddFault)
    → (old ≡ None → IsHeard model n) → IsPart part → old ≡ None → result ≡ added → MatchResult added (λ done. refused ≡ old) (λ fault. refused ≡ Some fault)
    → MatchResult added (λ done. Hears n next part) (Fails n part) → Told model n next old refused part result
telling model n next old refused part (Ok tt) result invariant is none answers notes hears =
    let P : Option AddFault → Option AddFault → Type 0 = λ o r. Takes (built model n o) part (built model next r) (Ok tt) in
    let none_now : refused ≡ None = notes ∙ none in
    let few : limit_of (with_part (seen n) part) ≡ None = none_passed (with_part (seen n) part)
    (omega (arith, hears.few_nets, ap (λ s. length s.nets) hears.said_is))
    (omega (arith, hears.few_registers, ap (λ s. length s.registers) hears.said_is, length-map next.registers (map_open (net_name next.names)))) in
    let done : P None None = record {
      answers = subst (λ o. IsAnswer None o (Ok tt)) (sym few) (inl refl);
      takes = ap (λ s. record { model = model; said = s; refused = None }) hears.said_is;
      refuses = tt;
    } in
    record {
      takes = subst (λ r. Takes (built model n old) part (built model next refused) r) (sym answers) (subst (λ r. P old r) (sym none_now) (subst (λ o. P o None) (sym none) done));
      keeps = λ fine. still_heard model n next part (invariant none) is hears;
    }
telling model n next old refused part (Err fault) result invariant is none answers notes fails =
    let P : Option AddFault → Type 0 = λ o. Takes (built model n o) part (built model next refused) (Err fault) in
    let cause : (limit : Option Limit) → limit_of (with_part (seen n) part) ≡ limit → IsAnswer None (limit_of (with_part (seen n) part)) (Err fault) = λ limit e. answer limit e in
    let done : P None = record { answers = answer (limit_of (with_part (seen n) part)) refl; takes = tt; refuses = notes } in
    record {
      takes = subst (λ r. Takes (built model n old) part (built model next refused) r) (sym answers) (subst P (sym none) done);
      keeps = λ fine. absurd (none-some fault (sym fine ∙ notes));
    }
  where
    memory : (limit : Option Limit) → fault ≡ NoMemory → IsAnswer None limit (Err fault)
    memory None same = inr (ap (λ f. Err f) same)
    memory (Some limit) same = inr (ap (λ f. Err f) same)

    answer : (limit : Option Limit) → limit_of (with_part (seen n) part) ≡ limit → IsAnswer None (limit_of (with_part (seen n) part)) (Err fault)
    answer limit e = elim fails [
      | inl same ↦ memory (limit_of (with_part (seen n) part)) same
      | inr passed ↦ subst (λ o. IsAnswer None o (Err fault)) (sym passed.2) (inl (ap (λ f. Err f) passed.1))
    ]
