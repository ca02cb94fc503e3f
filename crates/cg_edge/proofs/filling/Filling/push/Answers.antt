use Rattle.std.proofs.Common.{◌≡◌, ◌<◌, ◌++◌, ◌∷◌, [], ℕ, ◌+◌, List, length, get_or, map, slice_get, slice_set, Some, refl, sym, subst, ap, ◌∙◌, arith}
use Rattle.std.proofs.lemmas.List.{length-map, length-set}
use Rattle.cg_edge.specs.declared.readers.Span.{Span}
use Rattle.cg_edge.specs.inner.Keeping.{readers_at}
use Rattle.cg_edge.specs.inner.Spans.{AreApart, Filled, spanned}
use Rattle.cg_edge.proofs.Filled.{apart_grown, count_free, room_read, span_at, spans_grown}
use Rattle.cg_edge.proofs.filling.Filling.push.Goals as goal

pub prove-unreachable-requires : goal.prove-unreachable-requires
prove-unreachable-requires c =
    let all : List ℕ = c.self.inside.places.items in
    let spans : List Span = c.self.inside.spans.items in
    let room : List ℕ = c.self.inside.room.items in
    let x : ℕ = c.args.net in
    let a : Span = c.index.result.now in
    let n : ℕ = c.number-number.result in
    let same : n ≡ x = c.number-number.ensures.number in
    let long : length spans ≡ length c.args.self.now.lists = sym (length-map spans (spanned all)) ∙ ap (λ (f : Filled). length f.lists) c.self.view_is in
    let at : slice_get spans x ≡ Some a = span_at spans n x a a same (omega (arith, c.requires.net, long)) c.index.ensures in
    let free : a.count < get_or room x 0 = count_free all spans room c.self.invariant x a c.args.self.now at c.self.view_is c.requires.room in
    let read = room_read room n x c.index-room.result.now a.count same c.index-room.ensures free in
    omega (arith, read, c.if-prove.true)

pub index_mut-requires : goal.index_mut-requires
index_mut-requires c =
    let all : List ℕ = c.self.inside.places.items in
    let spans : List Span = c.self.inside.spans.items in
    let room : List ℕ = c.self.inside.room.items in
    let x : ℕ = c.args.net in
    let a : Span = c.index.result.now in
    let n : ℕ = c.number-number.result in
    let same : n ≡ x = c.number-number.ensures.number in
    let long : length spans ≡ length c.args.self.now.lists = sym (length-map spans (spanned all)) ∙ ap (λ (f : Filled). length f.lists) c.self.view_is in
    let at : slice_get spans x ≡ Some a = span_at spans n x a a same (omega (arith, c.requires.net, long)) c.index.ensures in
    let free : a.count < get_or room x 0 = count_free all spans room c.self.invariant x a c.args.self.now at c.self.view_is c.requires.room in
    let fits = c.self.invariant.fits x a at in
    let long = c.self.inside.places.ok.0 in
    omega (arith, fits, free, long)

pub invariant_of-self : goal.invariant_of-self
invariant_of-self c =
    let all : List ℕ = c.self.inside.places.items in
    let spans : List Span = c.self.inside.spans.items in
    let room : List ℕ = c.self.inside.room.items in
    let x : ℕ = c.args.net in
    let a : Span = c.index.result.now in
    let n : ℕ = c.number-number.result in
    let same : n ≡ x = c.number-number.ensures.number in
    let long : length spans ≡ length c.args.self.now.lists = sym (length-map spans (spanned all)) ∙ ap (λ (f : Filled). length f.lists) c.self.view_is in
    let at : slice_get spans x ≡ Some a = span_at spans n x a a same (omega (arith, c.requires.net, long)) c.index.ensures in
    let free : a.count < get_or room x 0 = count_free all spans room c.self.invariant x a c.args.self.now at c.self.view_is c.requires.room in
    let new : Span = record { first = a.first; count = a.count + 1 } in
    let grown : AreApart room (slice_set spans x new) (length all) = apart_grown all spans room c.self.invariant x c.args.place a at new refl refl free in
    subst (λ k. AreApart room (slice_set spans k new) (length (slice_set all (a.first + a.count) c.args.place))) (sym same)
    (subst (AreApart room (slice_set spans x new)) (sym (length-set all (a.first + a.count) c.args.place)) grown)

pub returns : goal.returns
returns c =
    let all : List ℕ = c.self.inside.places.items in
    let spans : List Span = c.self.inside.spans.items in
    let room : List ℕ = c.self.inside.room.items in
    let x : ℕ = c.args.net in
    let a : Span = c.index.result.now in
    let n : ℕ = c.number-number.result in
    let same : n ≡ x = c.number-number.ensures.number in
    let long : length spans ≡ length c.args.self.now.lists = sym (length-map spans (spanned all)) ∙ ap (λ (f : Filled). length f.lists) c.self.view_is in
    let at : slice_get spans x ≡ Some a = span_at spans n x a a same (omega (arith, c.requires.net, long)) c.index.ensures in
    let free : a.count < get_or room x 0 = count_free all spans room c.self.invariant x a c.args.self.now at c.self.view_is c.requires.room in
    let new : Span = record { first = a.first; count = a.count + 1 } in
    let grown = ap (λ k. map (spanned (slice_set all (a.first + a.count) c.args.place)) (slice_set spans k new)) same ∙ spans_grown all spans room c.self.invariant x c.args.place a at new refl refl free in
    (λ i. record { lists = grown i; room = room })
    ∙ ap (λ (f : Filled). record { lists = slice_set f.lists x (readers_at f.lists x ++ c.args.place ∷ []); room = f.room }) c.self.view_is
