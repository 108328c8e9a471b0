-- How much there is: nodes, links, children met, children that wait in open collections.
use Rattle.std.specs.Prelude.{◌≡◌, ℕ, suc, ◌+◌, ◌≤◌, List, [], ◌∷◌, ◌++◌, length, Some, None, Option}
use Rattle.model.specs.Events.{Ev}
use Rattle.model.specs.Graph.{Look, Vertex, numbered}
use Rattle.serial.specs.Walk.{Token, first, again, leave, Spot, spot, Walk}
use Rattle.serial.specs.Serialize.{walk_events}
use Rattle.serial.specs.Compose.{Frame, frame, Composed, TakesAll, beginning, Composes}
use Rattle.serial.specs.RoundTrip.{Sound, Tells}

-- the links of all nodes
abbrev pub all_links : List Vertex → ℕ
all_links [] = 0
all_links (x ∷ g) = length x.links + all_links g

abbrev link_count : Option Vertex → ℕ
link_count None = 0
link_count (Some x) = length x.links

-- the links of the nodes of a list
abbrev pub links_of : List Vertex → List ℕ → ℕ
links_of g [] = 0
links_of g (v ∷ vs) = link_count (numbered g v) + links_of g vs

-- the bytes of a look's tag and value, of all nodes, of the nodes of a list
abbrev pub text_of : Look → ℕ
text_of l = length l.tag + length l.value

abbrev pub all_text : List Vertex → ℕ
all_text [] = 0
all_text (x ∷ g) = text_of x.look + all_text g

abbrev text_count : Option Vertex → ℕ
text_count None = 0
text_count (Some x) = text_of x.look

abbrev pub texts_of : List Vertex → List ℕ → ℕ
texts_of g [] = 0
texts_of g (v ∷ vs) = text_count (numbered g v) + texts_of g vs

-- the bytes of the anchors that are noted, of the nodes of a list
abbrev pub name_bytes : List (List ℕ × ℕ) → ℕ
name_bytes [] = 0
name_bytes (n ∷ ns) = length n.0 + name_bytes ns

abbrev pub anchor_bytes : (ℕ → List ℕ) → List ℕ → ℕ
anchor_bytes anchors [] = 0
anchor_bytes anchors (v ∷ vs) = length (anchors v) + anchor_bytes anchors vs

-- a node is met first, a child is met (the root is the document's child)
abbrev pub is_first : Token → ℕ
is_first (first v) = 1
is_first (again v) = 0
is_first (leave v) = 0

abbrev pub is_child : Token → ℕ
is_child (first v) = 1
is_child (again v) = 1
is_child (leave v) = 0

abbrev pub firsts : List Token → ℕ
firsts [] = 0
firsts (t ∷ ts) = is_first t + firsts ts

abbrev pub children : List Token → ℕ
children [] = 0
children (t ∷ ts) = is_child t + children ts

-- the children that wait in open collections for their collections' ends
abbrev pub waiting : List Frame → ℕ
waiting [] = 0
waiting (frame v ks ∷ frames) = length ks + waiting frames

-- the links that are placed and the children that wait
abbrev pub stock : Composed → ℕ
stock s = all_links s.nodes + waiting s.open_ones

-- the children still to come in a walk
abbrev pub to_come : List Spot → ℕ
to_come [] = 0
to_come (spot v rest ∷ stack) = length rest + to_come stack

-- what is composed of a walk has as many nodes as were met first, as many links as children were met below the root, and the text of the nodes met
pub record Counted (g : List Vertex) (ts : List Token) (seen : List ℕ) (h : List Vertex) : Type 0 where
  pub nodes : length h ≡ length seen
  pub met : length seen ≡ firsts ts
  pub links : suc (all_links h) ≡ children ts
  pub links_are_met : all_links h ≡ links_of g seen
  pub text : all_text h ≡ texts_of g seen
  pub no_more_nodes : length h ≤ length g
  pub no_more_links : all_links h ≤ all_links g
  pub no_more_text : all_text h ≤ all_text g

abbrev pub Counting : Type 0
Counting = (g : List Vertex) (deep : ℕ) (ts : List Token) (seen : List ℕ) (anchors : ℕ → List ℕ) (h : List Vertex)
    → Sound g → Walk g deep ts seen → Tells anchors ts → Composes (walk_events anchors g ts) h → Counted g ts seen h

-- on the way: at most `deep` collections and the document are open; there are no more nodes, anchors and text than were met, and no more links placed and
-- children waiting than the nodes met have links, and the root
pub record Bounded (g : List Vertex) (anchors : ℕ → List ℕ) (deep : ℕ) (seen : List ℕ) (s : Composed) : Type 0 where
  pub open_few : length s.open_ones ≤ suc deep
  pub nodes_few : length s.nodes ≤ length seen
  pub links_few : stock s ≤ suc (links_of g seen)
  pub text_few : all_text s.nodes ≤ texts_of g seen
  pub names_few : length s.names ≤ length seen
  pub name_bytes_few : name_bytes s.names ≤ anchor_bytes anchors seen

-- so in every state that composing a walk's events goes through
abbrev pub Bounds : Type 0
Bounds = (g : List Vertex) (deep : ℕ) (ts : List Token) (seen : List ℕ) (anchors : ℕ → List ℕ) (es later : List Ev) (s : Composed)
    → Sound g → Walk g deep ts seen → Tells anchors ts → TakesAll beginning es s → es ++ later ≡ walk_events anchors g ts → Bounded g anchors deep seen s
