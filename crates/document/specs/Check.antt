-- What the check answers: the first question whose answer is no, and the node that it was asked of.
use Rattle.std.specs.Prelude.{◌≡◌, ℕ, ◌<◌, ◌≤◌, min, Bool, true, false, List, length, take, Some, None, Ok, Err, Option, Result}
use Rattle.model.specs.Graph.{numbered}
use Rattle.document.specs.declared.handed.Handed.{Handed as HandedIn}
use Rattle.document.specs.declared.node.Node.{Node}
use Rattle.document.specs.declared.refusal.Question.{Question}
use Rattle.document.specs.declared.refusal.Question.TheVariants.{Count, Kind, Tag, Value, Links, Sums}
use Rattle.document.specs.declared.refusal.Refusal.{Refusal}
use Rattle.document.specs.Numbers.{question_number}
use Rattle.std.specs.List.{list_all}
use Rattle.document.specs.Questions.{kind_right, tag_right, value_right, links_right, sums_right}

-- a question's answer at a node of n; the first and the last question are not asked of single nodes
abbrev pub asked : Question → ℕ → List ℕ → List ℕ → Node → Bool
asked Count n links text v = true
asked Kind n links text v = kind_right v
asked Tag n links text v = tag_right text v
asked Value n links text v = value_right text v
asked Links n links text v = links_right n links v
asked Sums n links text v = true

-- the node's answer to every question is yes
pub record Right (n : ℕ) (links text : List ℕ) (v : Node) : Type 0 where
  pub kind : kind_right v ≡ true
  pub tag : tag_right text v ≡ true
  pub value : value_right text v ≡ true
  pub linked : links_right n links v ≡ true

-- q is the first question to which the node's answer is no
pub record Wrong (n : ℕ) (links text : List ℕ) (v : Node) (q : Question) : Type 0 where
  pub fails : asked q n links text v ≡ false
  pub earlier : (p : Question) → question_number p < question_number q → asked p n links text v ≡ true

abbrev pub Examined : ℕ → List ℕ → List ℕ → Node → Option Question → Type 0
Examined n links text v None = Right n links text v
Examined n links text v (Some q) = Wrong n links text v q

-- every node is right
pub record AllRight (nodes : List Node) (links text : List ℕ) : Type 0 where
  pub kinds : list_all kind_right nodes ≡ true
  pub tags : list_all (tag_right text) nodes ≡ true
  pub values : list_all (value_right text) nodes ≡ true
  pub linked : list_all (links_right (length nodes) links) nodes ≡ true

-- Node k, from 1, is the first that fails a question, and q is the first that it fails.
pub record FirstFault (nodes : List Node) (links text : List ℕ) (q : Question) (k : ℕ) : Type 0 where
  pub node : Node
  pub here : numbered nodes k ≡ Some node
  pub wrong : Wrong (length nodes) links text node q
  pub before : (j : ℕ) (v : Node) → j < k → numbered nodes j ≡ Some v → (p : Question) → asked p (length nodes) links text v ≡ true

abbrev pub NodesChecked : List Node → List ℕ → List ℕ → Result (Unit {0}) Refusal → Type 0
NodesChecked nodes links text (Ok u) = AllRight nodes links text
NodesChecked nodes links text (Err e) = FirstFault nodes links text e.question e.node

-- the nodes are right, and too many together
pub record SumsWrong (nodes : List Node) (links text : List ℕ) (k : ℕ) : Type 0 where
  pub no_node : k ≡ 0
  pub right : AllRight nodes links text
  pub too_large : sums_right nodes ≡ false

-- and not too many together
pub record AllFit (nodes : List Node) (links text : List ℕ) : Type 0 where
  pub right : AllRight nodes links text
  pub small : sums_right nodes ≡ true

-- what the questions after the first answer
abbrev pub FaultBy : List Node → List ℕ → List ℕ → Question → ℕ → Type 0
FaultBy nodes links text Count k = ⊥
FaultBy nodes links text Kind k = FirstFault nodes links text Kind k
FaultBy nodes links text Tag k = FirstFault nodes links text Tag k
FaultBy nodes links text Value k = FirstFault nodes links text Value k
FaultBy nodes links text Links k = FirstFault nodes links text Links k
FaultBy nodes links text Sums k = SumsWrong nodes links text k

abbrev pub AllChecked : List Node → List ℕ → List ℕ → Result (Unit {0}) Refusal → Type 0
AllChecked nodes links text (Ok u) = AllFit nodes links text
AllChecked nodes links text (Err e) = FaultBy nodes links text e.question e.node

-- the tables as they are handed in, and how many of the nodes are meant
pub record Handed : Type 0 where
  pub nodes : List Node
  pub links : List ℕ
  pub text : List ℕ
  pub count : ℕ

abbrev pub handed : List Node → List ℕ → List ℕ → ℕ → Handed
handed vs ls ts n = record { nodes = vs; links = ls; text = ts; count = n }

abbrev pub handed_of : HandedIn → Handed
handed_of h = handed h.nodes.now h.links.now h.text.now h.count

-- as many nodes as there is space for
abbrev pub nodes_space : Handed → ℕ
nodes_space h = min (length h.nodes) 4096

-- the nodes meant, and the links and the text within their space
abbrev pub nodes_in : Handed → List Node
nodes_in h = take h.count h.nodes

abbrev pub links_in : Handed → List ℕ
links_in h = take 16384 h.links

abbrev pub text_in : Handed → List ℕ
text_in h = take 65536 h.text

-- 41
pub record TooMany (h : Handed) (k : ℕ) : Type 0 where
  pub no_node : k ≡ 0
  pub too_many : nodes_space h < h.count

-- 42 to 46: there are as many nodes
pub record Later (h : Handed) (q : Question) (k : ℕ) : Type 0 where
  pub enough : h.count ≤ nodes_space h
  pub fault : FaultBy (nodes_in h) (links_in h) (text_in h) q k

-- why no document stands on what was handed
abbrev pub RefusedBy : Handed → Question → ℕ → Type 0
RefusedBy h Count k = TooMany h k
RefusedBy h Kind k = Later h Kind k
RefusedBy h Tag k = Later h Tag k
RefusedBy h Value k = Later h Value k
RefusedBy h Links k = Later h Links k
RefusedBy h Sums k = Later h Sums k

abbrev pub Refused : Handed → Refusal → Type 0
Refused h e = RefusedBy h e.question e.node

-- every answer is yes
pub record Fit (h : Handed) : Type 0 where
  pub enough : h.count ≤ nodes_space h
  pub all : AllFit (nodes_in h) (links_in h) (text_in h)

-- the answer is determined: at most one refusal is right, and none where every answer is yes
pub record Determined (h : Handed) : Type 0 where
  pub one : (e f : Refusal) → Refused h e → Refused h f → e ≡ f
  pub none : (e : Refusal) → Refused h e → Fit h → ⊥
