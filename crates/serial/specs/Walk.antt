-- The walk over a document from its root: a node met first is given, a collection's children follow and then its end; a node met again is only named.
use Rattle.std.specs.Prelude.{◌≡◌, ℕ, suc, ◌≤◌, Bool, true, false, ◌||◌, List, [], ◌∷◌, length, Some, ◌==◌}
use Rattle.model.specs.declared.NodeKind.{NodeKind}
use Rattle.model.specs.declared.NodeKind.TheVariants.{Scalar, Sequence, Mapping}
use Rattle.model.specs.Graph.{Vertex, numbered}

-- one step of the walk: a node met first, a node met again, the end of a collection
pub data Token : Type 0 where
  first : ℕ → Token
  again : ℕ → Token
  leave : ℕ → Token

-- an open collection and its children still to come; number 0 stands for the document, whose one child is the root
pub data Spot : Type 0 where
  spot : ℕ → List ℕ → Spot

abbrev pub among : ℕ → List ℕ → Bool
among v [] = false
among v (w ∷ ws) = v == w || among v ws

abbrev pub is_collection : NodeKind → Bool
is_collection Scalar = false
is_collection Sequence = true
is_collection Mapping = true

-- One step, from the open collections (innermost first) and the nodes met (newest first) to those after it.
pub data Step (g : List Vertex) : List Spot → List ℕ → Token → List Spot → List ℕ → Type 0 where
  met : {u v : ℕ} {rest seen : List ℕ} {stack : List Spot}
      → among v seen ≡ true
      → Step g (spot u (v ∷ rest) ∷ stack) seen (again v) (spot u rest ∷ stack) seen
  leaf : {u v : ℕ} {rest seen : List ℕ} {stack : List Spot} {x : Vertex}
      → among v seen ≡ false → numbered g v ≡ Some x → is_collection x.look.kind ≡ false
      → Step g (spot u (v ∷ rest) ∷ stack) seen (first v) (spot u rest ∷ stack) (v ∷ seen)
  into : {u v : ℕ} {rest seen : List ℕ} {stack : List Spot} {x : Vertex}
      → among v seen ≡ false → numbered g v ≡ Some x → is_collection x.look.kind ≡ true
      → Step g (spot u (v ∷ rest) ∷ stack) seen (first v) (spot v x.links ∷ (spot u rest ∷ stack)) (v ∷ seen)
  out : {u v : ℕ} {rest seen : List ℕ} {stack : List Spot}
      → Step g (spot v [] ∷ (spot u rest ∷ stack)) seen (leave v) (spot u rest ∷ stack) seen

-- Steps one after the other; `deep` collections at most are open at once. All that varies stands in variables, the output last.
pub data Steps (g : List Vertex) (deep : ℕ) : List Spot → List ℕ → List Spot → List ℕ → List Token → Type 0 where
  none : {stack : List Spot} {seen : List ℕ} → Steps g deep stack seen stack seen []
  more : {s s' s'' : List Spot} {n n' n'' : List ℕ} {t : Token} {ts : List Token}
      → Step g s n t s' n' → length s' ≤ suc deep → Steps g deep s' n' s'' n'' ts → Steps g deep s n s'' n'' (t ∷ ts)

-- the walk of a document: its tokens, and the nodes met, newest first
pub record Walk (g : List Vertex) (deep : ℕ) (ts : List Token) (seen : List ℕ) : Type 0 where
  pub steps : Steps g deep (spot 0 (1 ∷ []) ∷ []) [] (spot 0 [] ∷ []) seen ts
