-- The packed format: a head of nine bytes (kind, style, flags, then the lengths of anchor, tag and value in two bytes each, high byte first), then the three texts.
use Rattle.std.specs.Prelude.{ℕ, ◌+◌, ◌*◌, ◌/◌, ◌%◌, cond, ◌&&◌, List, [], ◌∷◌, ◌++◌, length, take, drop, Some, None, Option, nat_le, nat_lt}
use Rattle.model.specs.declared.EventKind.{EventKind}
use Rattle.model.specs.declared.Cause.TheVariants.{HeadCut, HeadNotAllowed, TextsCut, ZeroByte}
use Rattle.model.specs.Events.{Ev, table, within, zero_free, kind_number, kind_at}
use Rattle.model.specs.Reading.{Front, nothing, event, fault}

abbrev pub head_bytes : ℕ → ℕ → ℕ → ℕ → ℕ → ℕ → List ℕ
head_bytes kind style flags a t v =
    kind ∷ (style ∷ (flags ∷ (a / 256 ∷ (a % 256 ∷ (t / 256 ∷ (t % 256 ∷ (v / 256 ∷ (v % 256 ∷ []))))))))

abbrev pub head_of : Ev → List ℕ
head_of e = head_bytes (kind_number e.kind) e.style e.flags (length e.anchor) (length e.tag) (length e.value)

abbrev pub packed_of : Ev → List ℕ
packed_of e = head_of e ++ (e.anchor ++ (e.tag ++ e.value))

abbrev pub size_of : Ev → ℕ
size_of e = 9 + (length e.anchor + (length e.tag + length e.value))

-- the event of a kind, style and flags whose texts have these lengths and stand at the front of these bytes
abbrev pub event_at : EventKind → ℕ → ℕ → ℕ → ℕ → ℕ → List ℕ → Ev
event_at k s f a t v texts = record { kind = k; style = s; flags = f; anchor = take a texts; tag = take t (drop a texts); value = take v (drop t (drop a texts)) }

-- are anchor and tag free of zero bytes?
abbrev by_zeros : Ev → ℕ → Front
by_zeros e n = cond (zero_free e.anchor && zero_free e.tag) (event e n) (fault ZeroByte)

-- do the texts end inside the input?
abbrev pub by_texts : EventKind → ℕ → ℕ → ℕ → ℕ → ℕ → List ℕ → Front
by_texts k s f a t v texts = cond (nat_le (a + (t + v)) (length texts)) (by_zeros (event_at k s f a t v texts) (9 + (a + (t + v)))) (fault TextsCut)

-- is the head one that an allowed event has?
abbrev pub by_head : Option EventKind → ℕ → ℕ → ℕ → ℕ → ℕ → List ℕ → Front
by_head None s f a t v texts = fault HeadNotAllowed
by_head (Some k) s f a t v texts = cond (within (table k) s f a t v) (by_texts k s f a t v texts) (fault HeadNotAllowed)

-- the number of two bytes, high byte first; an input here is any list of numbers, so a low one that is no byte is told by a length that no text has
abbrev pub two_bytes : ℕ → ℕ → ℕ
two_bytes high low = cond (nat_lt low 256) (256 * high + low) 65536

-- what stands at the front of some bytes; are nine bytes left?
abbrev pub packed_front : List ℕ → Front
packed_front [] = nothing
packed_front (k ∷ []) = fault HeadCut
packed_front (k ∷ (s ∷ [])) = fault HeadCut
packed_front (k ∷ (s ∷ (f ∷ []))) = fault HeadCut
packed_front (k ∷ (s ∷ (f ∷ (a1 ∷ [])))) = fault HeadCut
packed_front (k ∷ (s ∷ (f ∷ (a1 ∷ (a0 ∷ []))))) = fault HeadCut
packed_front (k ∷ (s ∷ (f ∷ (a1 ∷ (a0 ∷ (t1 ∷ [])))))) = fault HeadCut
packed_front (k ∷ (s ∷ (f ∷ (a1 ∷ (a0 ∷ (t1 ∷ (t0 ∷ []))))))) = fault HeadCut
packed_front (k ∷ (s ∷ (f ∷ (a1 ∷ (a0 ∷ (t1 ∷ (t0 ∷ (v1 ∷ [])))))))) = fault HeadCut
packed_front (k ∷ (s ∷ (f ∷ (a1 ∷ (a0 ∷ (t1 ∷ (t0 ∷ (v1 ∷ (v0 ∷ texts))))))))) =
    by_head (kind_at k) s f (two_bytes a1 a0) (two_bytes t1 t0) (two_bytes v1 v0) texts
