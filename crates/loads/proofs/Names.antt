-- Anchors: the table's first entry of a name is the newest one, since no name is given twice.
use Rattle.std.proofs.Common.{◌≡◌, ℕ, ◌-◌, ◌≤◌, true, false, cond, List, [], ◌∷◌, ◌++◌, length, replicate, Some, None, sym, refl, ap, ◌∙◌, inl, inr, arith}
use Rattle.std.proofs.lemmas.List.{take_at}
use Rattle.std.proofs.lemmas.Bool.{cases_Bool}
use Rattle.serial.specs.Serialize.{same_bytes}
use Rattle.serial.specs.Compose.{named}
use Rattle.serial.proofs.Standing.{same_bytes_lem}
use Rattle.composer.specs.declared.anchor.Anchor.{Anchor}
use Rattle.composer.specs.Names.{found, name_of, entry_of}
use Rattle.loads.specs.Tidy.{names_onto, names_of}

pub name_back : (bytes : List ℕ) (v : ℕ) → name_of (entry_of bytes v) ≡ bytes
name_back bytes v = take_at bytes (replicate (64 - length bytes) 0) (length bytes) refl

pub names_push : (ns : List (List ℕ × ℕ)) (anchors : List Anchor) (a : Anchor) → names_onto ns (anchors ++ a ∷ []) ≡ (name_of a, a.node) ∷ names_onto ns anchors
names_push ns [] a = refl
names_push ns (b ∷ anchors) a = names_push ((name_of b, b.node) ∷ ns) anchors a

found_old : (anchors : List Anchor) (a : Anchor) (x : List ℕ) → same_bytes x (name_of a) ≡ false → found (anchors ++ a ∷ []) x ≡ found anchors x
found_old [] a x h = rw h refl
found_old (b ∷ anchors) a x h = ap (cond (same_bytes x (name_of b)) (Some b.node)) (found_old anchors a x h)

found_new : (anchors : List Anchor) (a : Anchor) (x : List ℕ) → same_bytes x (name_of a) ≡ true → found anchors x ≡ None → found (anchors ++ a ∷ []) x ≡ Some a.node
found_new [] a x h none = rw h refl
found_new (b ∷ anchors) a x h none = elim (cases_Bool (same_bytes x (name_of b))) [
  | inl t ↦ let e : Some b.node ≡ None = rw t at none in cc
  | inr f ↦ rw f (found_new anchors a x h (rw f at none))
]

-- one name more, which is new
module _ (anchors : List Anchor) (a : Anchor) (new : found anchors (name_of a) ≡ None) where
  pub found_names : ((x : List ℕ) → found anchors x ≡ named x (names_of anchors)) → (x : List ℕ) → found (anchors ++ a ∷ []) x ≡ named x (names_of (anchors ++ a ∷ []))
  found_names same x = rw (names_push [] anchors a) (elim (cases_Bool (same_bytes x (name_of a))) [
    | inl t ↦ rw t (found_new anchors a x t (ap (found anchors) (same_bytes_lem x (name_of a) t) ∙ new))
    | inr f ↦ rw f (found_old anchors a x f ∙ same x)
  ])

  pub found_known : (n : ℕ) → (1 ≤ a.node) × (a.node ≤ n) → ((x : List ℕ) (v : ℕ) → found anchors x ≡ Some v → (1 ≤ v) × (v ≤ n))
      → (x : List ℕ) (v : ℕ) → found (anchors ++ a ∷ []) x ≡ Some v → (1 ≤ v) × (v ≤ n)
  found_known n here known x v h = elim (cases_Bool (same_bytes x (name_of a))) [
    | inl t ↦ let e = found_new anchors a x t (ap (found anchors) (same_bytes_lem x (name_of a) t) ∙ new) in
        let q : a.node ≡ v = cc in (omega (arith, here), omega (arith, here))
    | inr f ↦ known x v (sym (found_old anchors a x f) ∙ h)
  ]
