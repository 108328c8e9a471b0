-- What is said of walks: which documents have one, which nodes it meets, how long it is, and the same walk told by visits.
use Rattle.std.specs.Prelude.{◌≡◌, ℕ, suc, ◌+◌, ◌<◌, ◌≤◌, Bool, true, false, cond, List, [], ◌∷◌, ◌++◌, length, Some, None, Option}
use Rattle.model.specs.Graph.{Vertex, numbered, root, leads_from}
use Rattle.serial.specs.Walk.{Token, first, again, leave, among, is_collection}

-- A document that can be walked: it has a node, each link names one of its nodes, and what is no collection has no links.
pub record SoundGraph (g : List Vertex) : Type 0 where
  pub some_node : 1 ≤ length g
  pub links_inside : (v : ℕ) (x : Vertex) → numbered g v ≡ Some x → (place w : ℕ) → numbered x.links place ≡ Some w → (1 ≤ w) × (w ≤ length g)
  pub leaves : (v : ℕ) (x : Vertex) → numbered g v ≡ Some x → is_collection x.look.kind ≡ false → x.links ≡ []

-- some path leads from the root to the node v
abbrev pub LedTo : List Vertex → ℕ → Type 0
LedTo g v = (path : List ℕ) × (leads_from g (root g) path ≡ Some v)

-- no number stands twice in the list
abbrev pub Once : List ℕ → Type 0
Once [] = Unit
Once (v ∷ vs) = (among v vs ≡ false) × Once vs

-- the nodes met after the tokens, newest first, where those of the list were met before
abbrev pub met_by : List ℕ → List Token → List ℕ
met_by seen [] = seen
met_by seen (first v ∷ ts) = met_by (v ∷ seen) ts
met_by seen (again v ∷ ts) = met_by seen ts
met_by seen (leave v ∷ ts) = met_by seen ts

-- what one node counts: as a collection, and by its links
abbrev pub collection_count : Vertex → ℕ
collection_count x = cond (is_collection x.look.kind) 1 0

abbrev pub link_count : Vertex → ℕ
link_count x = length x.links

abbrev pub count_of : (Vertex → ℕ) → Option Vertex → ℕ
count_of f None = 0
count_of f (Some x) = f x

-- what the nodes of a list of numbers count together
abbrev pub sum_met : (Vertex → ℕ) → List Vertex → List ℕ → ℕ
sum_met f g [] = 0
sum_met f g (v ∷ vs) = count_of f (numbered g v) + sum_met f g vs

-- what all nodes, numbered from k, count together whose number stands in the list
abbrev pub sum_over : (Vertex → ℕ) → ℕ → List Vertex → List ℕ → ℕ
sum_over f k [] seen = 0
sum_over f k (x ∷ g) seen = cond (among k seen) (f x) 0 + sum_over f (suc k) g seen

-- what all nodes, numbered from k, count together whose number passes the test
abbrev pub sum_where : (Vertex → ℕ) → (ℕ → Bool) → ℕ → List Vertex → ℕ
sum_where f test k [] = 0
sum_where f test k (x ∷ g) = cond (test k) (f x) 0 + sum_where f test (suc k) g

-- a test that tells exactly the nodes that some path leads to
pub record TellsLed (g : List Vertex) (test : ℕ → Bool) : Type 0 where
  pub led : (v : ℕ) → test v ≡ true → LedTo g v
  pub told : (v : ℕ) → LedTo g v → test v ≡ true

-- what all nodes count together
abbrev pub sum_all : (Vertex → ℕ) → List Vertex → ℕ
sum_all f [] = 0
sum_all f (x ∷ g) = f x + sum_all f g

-- the steps that the first meeting of a node brings with it: of a collection, one for each link and one for its end
abbrev pub weight : Vertex → ℕ
weight x = cond (is_collection x.look.kind) (suc (length x.links)) 0

-- the collections among the nodes met, and the links of the nodes met
abbrev pub collections_met : List Vertex → List ℕ → ℕ
collections_met g seen = sum_met collection_count g seen

abbrev pub links_met : List Vertex → List ℕ → ℕ
links_met g seen = sum_met link_count g seen

-- The walk told by visits, `depth` collections being open and at most `deep` of them allowed.
-- A visit of the node v: it was met before, or it is no collection, or its children are visited in order, one deeper.
mutual
  pub data Visit (g : List Vertex) (deep : ℕ) : ℕ → List ℕ → ℕ → List Token → List ℕ → Type 0 where
    visit_again : {depth v : ℕ} {seen seen' : List ℕ} {ts : List Token}
        → among v seen ≡ true → ts ≡ again v ∷ [] → seen' ≡ seen → Visit g deep depth seen v ts seen'
    visit_leaf : {depth v : ℕ} {seen seen' : List ℕ} {ts : List Token} {x : Vertex}
        → among v seen ≡ false → numbered g v ≡ Some x → is_collection x.look.kind ≡ false
        → ts ≡ first v ∷ [] → seen' ≡ v ∷ seen → Visit g deep depth seen v ts seen'
    visit_into : {depth v : ℕ} {seen seen' : List ℕ} {ts inner : List Token} {x : Vertex}
        → among v seen ≡ false → numbered g v ≡ Some x → is_collection x.look.kind ≡ true
        → depth < deep → Visits g deep (suc depth) (v ∷ seen) x.links inner seen'
        → ts ≡ first v ∷ (inner ++ leave v ∷ []) → Visit g deep depth seen v ts seen'

  -- visits of several nodes one after the other; the last one is added at the end
  pub data Visits (g : List Vertex) (deep : ℕ) : ℕ → List ℕ → List ℕ → List Token → List ℕ → Type 0 where
    no_visit : {depth : ℕ} {seen seen' vs : List ℕ} {ts : List Token}
        → vs ≡ [] → ts ≡ [] → seen' ≡ seen → Visits g deep depth seen vs ts seen'
    visit_more : {depth v : ℕ} {seen mid seen' vs vs' : List ℕ} {ts us ts' : List Token}
        → Visits g deep depth seen vs ts mid → Visit g deep depth mid v us seen'
        → vs' ≡ vs ++ v ∷ [] → ts' ≡ ts ++ us → Visits g deep depth seen vs' ts' seen'

-- A visit that would open more collections than are allowed: the node itself would be one too many, or a visit below it would.
mutual
  pub data IsTooDeep (g : List Vertex) (deep : ℕ) : ℕ → List ℕ → ℕ → Type 0 where
    deep_here : {depth v : ℕ} {seen : List ℕ} {x : Vertex}
        → among v seen ≡ false → numbered g v ≡ Some x → is_collection x.look.kind ≡ true → deep ≤ depth → IsTooDeep g deep depth seen v
    deep_below : {depth v : ℕ} {seen : List ℕ} {x : Vertex}
        → among v seen ≡ false → numbered g v ≡ Some x → is_collection x.look.kind ≡ true
        → depth < deep → TooDeepOne g deep (suc depth) (v ∷ seen) x.links → IsTooDeep g deep depth seen v

  -- of several nodes, those before one are visited, and its visit is too deep
  pub data TooDeepOne (g : List Vertex) (deep : ℕ) : ℕ → List ℕ → List ℕ → Type 0 where
    deep_at : {depth v : ℕ} {seen mid vs ws : List ℕ} {ts : List Token} (rest : List ℕ)
        → Visits g deep depth seen vs ts mid → IsTooDeep g deep depth mid v → ws ≡ vs ++ (v ∷ rest) → TooDeepOne g deep depth seen ws
