-- The events of steps, read off a Document.
use Rattle.std.proofs.Common.{◌≡◌, ℕ, ◌+◌, ◌<◌, Bool, true, false, cond, eqb, List, [], ◌∷◌, ◌++◌, length, get_or, take, drop, sym, refl, ap, ◌∙◌}
use Rattle.std.proofs.lemmas.List.{append_assoc, append-nil, map-append, take_more, drop_more, take-append-drop}
use Rattle.std.proofs.lemmas.Bool.{and_parts}
use mir.Val.{bool_byte as from_bool}
use Rattle.model.specs.declared.EventKind.{EventKind}
use Rattle.model.specs.Events.{Ev, allowed, all_allowed}
use Rattle.model.specs.Graph.{Vertex, Book}
use Rattle.serial.specs.Walk.{Token, first, again, leave}
use Rattle.serial.specs.Numbering.{anchor_of}
use Rattle.serial.specs.Serialize.{plain, token_events, walk_events, book_events}
use Rattle.runs.specs.Writer.{due_of, node_of, token_dues, walk_dues}
use Rattle.runs.proofs.Answering.{walk_dues_append}
use Rattle.runs.proofs.Pieces.{front_allowed}
use Rattle.walk.specs.declared.entry.Step.{Step}
use Rattle.dumper.specs.Steps.{token_of, tokens_of}

-- a step is about its node
pub node_told : (s : Step) → node_of (token_of s) ≡ s.node
node_told s =
    elim (eqb s.what 1) as (λ b. node_of (cond b (first s.node) (cond (eqb s.what 2) (again s.node) (leave s.node))) ≡ s.node) [
      | true ↦ refl
      | false ↦ elim (eqb s.what 2) as (λ b. node_of (cond b (again s.node) (leave s.node)) ≡ s.node) [ true ↦ refl | false ↦ refl ]
    ]

-- the event that bounds a document, with its flag
byte_told : (b : Bool) → from_bool b ≡ cond b 1 0
byte_told true = refl
byte_told false = refl

pub bound_told : (k : EventKind) (e : Ev) (a : Bool) (n : ℕ) (b : Bool) → e ≡ plain k n → n ≡ from_bool a → a ≡ b → due_of 0 e ∷ [] ≡ due_of 0 (plain k (cond b 1 0)) ∷ []
bound_told k e a n b p q r = ap (λ x. due_of 0 x ∷ []) (p ∙ ap (plain k) (q ∙ ap from_bool r ∙ byte_told b))

-- of a document's events, those of its walk are allowed if all are
pub walk_allowed : (b : Book) (ts : List Token) → all_allowed (book_events b ts) ≡ true → all_allowed (walk_events (anchor_of b.nodes) b.nodes ts) ≡ true
walk_allowed b ts a = front_allowed (walk_events (anchor_of b.nodes) b.nodes ts) _ (and_parts _ _ a).1

-- of some events, the others are allowed if all are
rest_allowed : (xs ys : List Ev) → all_allowed (xs ++ ys) ≡ true → all_allowed ys ≡ true
rest_allowed [] ys a = a
rest_allowed (x ∷ xs) ys a = rest_allowed xs ys (and_parts (allowed x) (all_allowed (xs ++ ys)) a).1

module _ (anchors : ℕ → List ℕ) (g : List Vertex) where
  walk_append : (xs ys : List Token) → walk_events anchors g (xs ++ ys) ≡ walk_events anchors g xs ++ walk_events anchors g ys
  walk_append [] ys = refl
  walk_append (x ∷ xs) ys = ap (λ es. token_events anchors g x ++ es) (walk_append xs ys) ∙ sym (append_assoc (token_events anchors g x) (walk_events anchors g xs) (walk_events anchors g ys))

  module _ (ss : List Step) (i : ℕ) (d : Step) (inside : i < length ss) where
    at : ss ≡ take i ss ++ (get_or ss i d ∷ drop (i + 1) ss)
    at = sym (take-append-drop i ss) ∙ ap (λ xs. take i ss ++ xs) (drop_more ss i d inside)

    tokens_at : tokens_of ss ≡ tokens_of (take i ss) ++ (token_of (get_or ss i d) ∷ tokens_of (drop (i + 1) ss))
    tokens_at = ap tokens_of at ∙ map-append token_of (take i ss) (get_or ss i d ∷ drop (i + 1) ss)

    -- the step at a place: its events are allowed if all are
    pub step_allowed : all_allowed (walk_events anchors g (tokens_of ss)) ≡ true → all_allowed (token_events anchors g (token_of (get_or ss i d))) ≡ true
    step_allowed a =
        let all : all_allowed (walk_events anchors g (tokens_of (take i ss)) ++ (token_events anchors g (token_of (get_or ss i d)) ++ walk_events anchors g (tokens_of (drop (i + 1) ss)))) ≡ true =
        sym (ap all_allowed (ap (walk_events anchors g) tokens_at ∙ walk_append (tokens_of (take i ss)) (token_of (get_or ss i d) ∷ tokens_of (drop (i + 1) ss)))) ∙ a in
        front_allowed (token_events anchors g (token_of (get_or ss i d))) (walk_events anchors g (tokens_of (drop (i + 1) ss)))
        (rest_allowed (walk_events anchors g (tokens_of (take i ss))) _ all)

    -- its events come after those before it, and before the rest
    pub dues_at : (walk_dues anchors g (tokens_of (take i ss)) ++ token_dues anchors g (token_of (get_or ss i d))) ++ walk_dues anchors g (tokens_of (drop (i + 1) ss)) ≡ walk_dues anchors g (tokens_of ss)
    dues_at =
        append_assoc (walk_dues anchors g (tokens_of (take i ss))) (token_dues anchors g (token_of (get_or ss i d))) (walk_dues anchors g (tokens_of (drop (i + 1) ss)))
        ∙ sym (ap (walk_dues anchors g) tokens_at ∙ walk_dues_append anchors g (tokens_of (take i ss)) (token_of (get_or ss i d) ∷ tokens_of (drop (i + 1) ss)))

    pub dues_more : walk_dues anchors g (tokens_of (take i ss)) ++ token_dues anchors g (token_of (get_or ss i d)) ≡ walk_dues anchors g (tokens_of (take (i + 1) ss))
    dues_more =
        sym (ap (λ xs. walk_dues anchors g (tokens_of xs)) (take_more ss i d inside)
        ∙ ap (walk_dues anchors g) (map-append token_of (take i ss) (get_or ss i d ∷ []))
        ∙ walk_dues_append anchors g (tokens_of (take i ss)) (token_of (get_or ss i d) ∷ [])
        ∙ ap (λ ds. walk_dues anchors g (tokens_of (take i ss)) ++ ds) (append-nil (token_dues anchors g (token_of (get_or ss i d)))))
