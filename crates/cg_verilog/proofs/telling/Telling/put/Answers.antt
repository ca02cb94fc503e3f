use Rattle.std.proofs.Common.{[], ◌≡◌, ◌∙◌, List, Option, ap, refl, subst, sym}
use Rattle.cg_net.specs.Names.{NetName}
use Rattle.cg_verilog_text.specs.Items.{Item, Input, Output, Range}
use Rattle.cg_verilog_text.specs.Meaning.{said_by}
use Rattle.cg_verilog_items.specs.ItemSeen.{item_seen}
use Rattle.cg_verilog.specs.Summary.{Summary, put, put_result}
use Rattle.cg_verilog.specs.Tellings.{Becomes, summed}
use Rattle.cg_verilog.proofs.TellingLemmas.{plain_put}
use Rattle.cg_verilog.proofs.telling.Telling.put.Goals as goal

pub returns-in-Input : goal.returns-in-Input
returns-in-Input c =
    let library = c.args.library.now in
    let s = summed c.args.self.now in
    let nets = c.as_slice-in-Input.result.now in
    let range = c.in-Input.range in
    let item : c.args.item ≡ Input range nets = sym c.item.view_is ∙ (ap item_seen c.in-Input.is ∙ ap (λ (ns : List NetName). Input range ns) (sym (c.as_slice-in-Input.ensures.parts ∙ c.in-Input.nets-is))) in
    subst (λ (t : Summary). Becomes c.put_declared.new.self t c.put_declared.result)
    (sym (ap (λ (i : Item). put library s (record { line = c.args.line; item = i })) item ∙ plain_put library s c.args.line (Input range nets) refl refl))
    (subst (λ (r : Option Range). Becomes c.put_declared.new.self (put_result s c.args.line (said_by library [] (Input r nets))) c.put_declared.result) c.in-Input.range-is c.put_declared.ensures)

pub returns-in-Output : goal.returns-in-Output
returns-in-Output c =
    let library = c.args.library.now in
    let s = summed c.args.self.now in
    let nets = c.as_slice-in-Output.result.now in
    let range = c.in-Output.range in
    let item : c.args.item ≡ Output range nets = sym c.item.view_is ∙ (ap item_seen c.in-Output.is ∙ ap (λ (ns : List NetName). Output range ns) (sym (c.as_slice-in-Output.ensures.parts ∙ c.in-Output.nets-is))) in
    subst (λ (t : Summary). Becomes c.put_declared-in-Output.new.self t c.put_declared-in-Output.result)
    (sym (ap (λ (i : Item). put library s (record { line = c.args.line; item = i })) item ∙ plain_put library s c.args.line (Output range nets) refl refl))
    (subst (λ (r : Option Range). Becomes c.put_declared-in-Output.new.self (put_result s c.args.line (said_by library [] (Output r nets))) c.put_declared-in-Output.result) c.in-Output.range-is c.put_declared-in-Output.ensures)
