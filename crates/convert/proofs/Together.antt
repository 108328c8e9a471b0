-- An event put together from its head and its copied texts is the one that came.
use Rattle.std.proofs.Common.{◌≡◌, ℕ, ◌≤◌, List, length, take, Some, sym, ap, ◌∙◌, subst, arith}
use Rattle.model.specs.Events.{Ev}
use Rattle.model.specs.Reading.{Marked}
use Rattle.yaml.specs.declared.event.Head.{Head}
use Rattle.yaml.specs.declared.event.Text.{Text}
use Rattle.yaml.specs.declared.event.Text.TheVariants.{Anchor, Tag, Value}
use Rattle.yaml.specs.Shapes.{head_of, text_of}
use Rattle.yaml.specs.Flow.{Flow, Sound, Came}
use Rattle.convert.specs.Copies.{latest_text}
use Rattle.convert.proofs.Allowed.{allowed_short, came_allowed}

-- the event of a head and of buffers at whose fronts its texts stand
abbrev put_together : Head → List ℕ → List ℕ → List ℕ → Ev
put_together h a t v = record { kind = h.kind; style = h.style; flags = h.flags; anchor = take h.anchor a; tag = take h.tag t; value = take h.value v }

text_of_latest : (f : Flow) (e : Ev) (t : Text) → f.latest ≡ Some e → latest_text f t ≡ text_of t e
text_of_latest f e t l = ap (λ o. latest_text (record { latest = o; coming = f.coming }) t) l

-- a latest text that was copied is the event's
copied : (f : Flow) (e : Ev) (t : Text) (n : ℕ) (out : List ℕ) → f.latest ≡ Some e → take n out ≡ latest_text f t → take n out ≡ text_of t e
copied f e t n out l h = h ∙ text_of_latest f e t l

module _ (f f' : Flow) (m : Marked) (came : Came f m f') where
  came_text : (t : Text) → latest_text f' t ≡ text_of t m.event
  came_text t = text_of_latest f' m.event t came.latest

  -- the texts that a head tells, by their lengths: there is room for each
  pub record Told (h : Head) : Type 0 where
    pub anchor : h.anchor ≡ length (latest_text f' Anchor)
    pub tag : h.tag ≡ length (latest_text f' Tag)
    pub value : h.value ≡ length (latest_text f' Value)
    pub few_anchor : h.anchor ≤ 64
    pub few_tag : h.tag ≤ 256
    pub few_value : h.value ≤ 4096

  pub told_by : Sound f → (h : Head) → h ≡ head_of m → Told h
  told_by sound h told =
      let short = allowed_short m.event (came_allowed f m f' sound came) in
      let a : h.anchor ≡ length m.event.anchor = ap (λ x. x.anchor) told in
      let t : h.tag ≡ length m.event.tag = ap (λ x. x.tag) told in
      let v : h.value ≡ length m.event.value = ap (λ x. x.value) told in
      record {
        anchor = a ∙ ap length (sym (came_text Anchor));
        tag = t ∙ ap length (sym (came_text Tag));
        value = v ∙ ap length (sym (came_text Value));
        few_anchor = omega (arith, short.anchor);
        few_tag = omega (arith, short.tag);
        few_value = omega (arith, short.value);
      }

  -- the event that came is the one that is put together
  pub together : (h : Head) (a t v : List ℕ) → h ≡ head_of m
      → take h.anchor a ≡ latest_text f' Anchor → take h.tag t ≡ latest_text f' Tag → take h.value v ≡ latest_text f' Value
      → Came f (record { event = put_together h a t v; start = h.start; end = h.end }) f'
  together h a t v told pa pt pv =
      let back = sym told in
      let qa = sym (copied f' m.event Anchor h.anchor a came.latest pa) in
      let qt = sym (copied f' m.event Tag h.tag t came.latest pt) in
      let qv = sym (copied f' m.event Value h.value v came.latest pv) in
      let same : m ≡ record { event = put_together h a t v; start = h.start; end = h.end } =
      λ i. record {
        event = record { kind = (back i).kind; style = (back i).style; flags = (back i).flags; anchor = qa i; tag = qt i; value = qv i };
        start = (back i).start;
        end = (back i).end;
      } in
      subst (λ x. Came f x f') same came
