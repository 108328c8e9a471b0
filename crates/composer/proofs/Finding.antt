-- Names found in a list of anchors.
use Rattle.std.proofs.Common.{◌≡◌, ℕ, ◌+◌, ◌<◌, min, false, List, [], length, get_or, take, drop, Some, sym, ap, ◌∙◌, arith}
use Rattle.std.proofs.lemmas.List.{length-take, get_or-take, take_all, at_drop_more}
use Rattle.std.proofs.lemmas.Bool.{cond-true, cond-false}
use Rattle.tables.proofs.Tops.{held_take}
use Rattle.serial.specs.Serialize.{same_bytes}
use Rattle.serial.proofs.Standing.{bytes_same, bytes_differ}
use Rattle.composer.specs.declared.anchor.Anchor.{Anchor}
use Rattle.composer.specs.Names.{found, name_of}

abbrev pub absent_anchor : Anchor
absent_anchor = record { bytes = []; size = 0; node = 0 }

module _ (anchors : List Anchor) (i : ℕ) (bytes : List ℕ) (inside : i < length anchors) where
  passed : same_bytes bytes (name_of (get_or anchors i absent_anchor)) ≡ false → found (drop (i + 1) anchors) bytes ≡ found (drop i anchors) bytes
  passed h = sym (at_drop_more (λ l. found l bytes) anchors i absent_anchor inside ∙ cond-false _ (Some (get_or anchors i absent_anchor).node) (found (drop (i + 1) anchors) bytes) h)

  -- a name of another length is another
  pub passed_size : (size : ℕ) → size ≡ min (get_or anchors i absent_anchor).size (length (get_or anchors i absent_anchor).bytes) → (size ≡ length bytes → ⊥)
      → found (drop (i + 1) anchors) bytes ≡ found (drop i anchors) bytes
  passed_size size is apart =
      let a = get_or anchors i absent_anchor in
      passed (bytes_differ bytes (name_of a) (λ e. apart (is ∙ sym (length-take a.size a.bytes) ∙ sym (ap length e))))

  -- a name with another byte is another
  pub passed_byte : (k : ℕ) → k < (get_or anchors i absent_anchor).size → (get_or (get_or anchors i absent_anchor).bytes k 0 ≡ get_or bytes k 0 → ⊥)
      → found (drop (i + 1) anchors) bytes ≡ found (drop i anchors) bytes
  passed_byte k within apart =
      let a = get_or anchors i absent_anchor in
      passed (bytes_differ bytes (name_of a) (λ e. apart (sym (get_or-take a.size a.bytes k 0 within) ∙ sym (ap (λ l. get_or l k 0) e))))

  -- the same bytes are the same name
  pub found_here : (size k : ℕ) → size ≡ min (get_or anchors i absent_anchor).size (length (get_or anchors i absent_anchor).bytes) → size ≡ length bytes → size ≡ k
      → take k (get_or anchors i absent_anchor).bytes ≡ take k bytes → Some (get_or anchors i absent_anchor).node ≡ found (drop i anchors) bytes
  found_here size k is long end same =
      let a = get_or anchors i absent_anchor in
      let cut = length-take a.size a.bytes in
      let held : k ≡ length (take a.size a.bytes) = omega arith in
      let equal : bytes ≡ name_of a = sym (take_all k bytes (omega arith)) ∙ sym same ∙ held_take a.size k a.bytes held in
      sym (at_drop_more (λ l. found l bytes) anchors i absent_anchor inside
      ∙ cond-true _ (Some a.node) (found (drop (i + 1) anchors) bytes) (ap (same_bytes bytes) (sym equal) ∙ bytes_same bytes))
