-- What holds of the graph of every Document.
use Rattle.std.specs.Prelude.{◌≡◌, ℕ, ◌+◌, ◌%◌, ◌≤◌, true, false, List, [], length, sum_by}
use Rattle.std.specs.List.{AllByRecursion}
use Rattle.model.specs.declared.NodeKind.{NodeKind}
use Rattle.model.specs.declared.NodeKind.TheVariants.{Scalar, Sequence, Mapping}
use Rattle.model.specs.Events.{zero_free}
use Rattle.model.specs.Graph.{Vertex, Book}
use Rattle.document.specs.Questions.{bang}

abbrev pub most_style_of : NodeKind → ℕ
most_style_of Scalar = 5
most_style_of Sequence = 2
most_style_of Mapping = 2

-- the number of one of n nodes
pub record Names (n link : ℕ) : Type 0 where
  pub low : 1 ≤ link
  pub high : link ≤ n

-- a scalar has no links; a collection has no value, and a mapping as many keys as values
abbrev pub ByKind : NodeKind → List ℕ → List ℕ → Type 0
ByKind Scalar value links = links ≡ []
ByKind Sequence value links = value ≡ []
ByKind Mapping value links = (value ≡ []) × (length links % 2 ≡ 0)

pub record IsSoundVertex (n : ℕ) (x : Vertex) : Type 0 where
  pub style : x.look.style ≤ most_style_of x.look.kind
  pub tag_there : 1 ≤ length x.look.tag
  pub tag_short : length x.look.tag ≤ 256
  pub tag_zero_free : zero_free x.look.tag ≡ true
  pub tag_not_bang : bang x.look.tag ≡ false
  pub value_short : length x.look.value ≤ 4096
  pub links_name : AllByRecursion (Names n) x.links
  pub by_kind : ByKind x.look.kind x.look.value x.links

abbrev pub link_length : Vertex → ℕ
link_length x = length x.links

abbrev pub text_bytes : Vertex → ℕ
text_bytes x = length x.look.tag + length x.look.value

pub record SoundBook (b : Book) : Type 0 where
  pub few : length b.nodes ≤ 4096
  pub each : AllByRecursion (IsSoundVertex (length b.nodes)) b.nodes
  pub few_links : sum_by link_length b.nodes ≤ 16384
  pub few_bytes : sum_by text_bytes b.nodes ≤ 65536
