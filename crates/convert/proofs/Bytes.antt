-- Reading the latest event's texts byte by byte.
use Rattle.std.proofs.Common.{◌≡◌, ℕ, ◌+◌, ◌<◌, ltb, List, [], ◌∷◌, ◌++◌, length, get_or, take, set, Some, None, Option, sym, refl, ap, ◌∙◌, arith}
use Rattle.std.proofs.lemmas.Bool.{lt-ltb, cond-true}
use Rattle.std.proofs.lemmas.List.{take_more, take_more_set}
use Rattle.model.specs.Events.{Ev}
use Rattle.yaml.specs.declared.event.Text.{Text}
use Rattle.yaml.specs.Shapes.{text_of}
use Rattle.yaml.specs.Flow.{Flow, byte_of}
use Rattle.convert.specs.Copies.{latest_text}

-- a byte within a text is there
pub byte_there : (f : Flow) (t : Text) (i : ℕ) → i < length (latest_text f t) → byte_of f t i ≡ Some (get_or (latest_text f t) i 0)
byte_there f t i h = by f.latest refl h
  where
    by : (o : Option Ev) → f.latest ≡ o → i < length (latest_text (record { latest = o; coming = f.coming }) t) → byte_of (record { latest = o; coming = f.coming }) t i ≡ Some (get_or (latest_text (record { latest = o; coming = f.coming }) t) i 0)
    by None e l = absurd (omega arith)
    by (Some x) e l = cond-true (ltb i (length (text_of t x))) _ _ (lt-ltb i (length (text_of t x)) l)

-- a byte that was read is the text's
pub byte_is : (f : Flow) (t : Text) (i b : ℕ) → i < length (latest_text f t) → Some b ≡ byte_of f t i → b ≡ get_or (latest_text f t) i 0
byte_is f t i b l h = let there = byte_there f t i l in cc

-- one byte more is copied
pub copied_more : (out text : List ℕ) (i b : ℕ) → i < length out → i < length text → b ≡ get_or text i 0 → take i out ≡ take i text → take (i + 1) (set out i b) ≡ take (i + 1) text
copied_more out text i b lo lt h p = take_more_set out i b lo ∙ ap (λ x. take i out ++ x ∷ []) h ∙ ap (λ l. l ++ get_or text i 0 ∷ []) p ∙ sym (take_more text i 0 lt)
