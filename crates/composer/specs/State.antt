-- What the tables hold while a document is composed, as plain lists, and how much they can hold.
use Rattle.std.specs.Prelude.{ℕ, min, List, []}
use Rattle.document.specs.declared.node.Node.{Node}
use Rattle.composer.specs.declared.anchor.Anchor.{Anchor}
use Rattle.composer.specs.declared.frames.Frame.{Frame}
use Rattle.composer.specs.declared.stacks.Spaces.{Spaces as TableSpaces}

-- nodes, placed links and text in order; anchors in order; the children that wait for their collection's end, in order; the open collections, innermost first
pub record St : Type 0 where
  pub nodes : List Node
  pub links : List ℕ
  pub text : List ℕ
  pub anchors : List Anchor
  pub waiting : List ℕ
  pub frames : List Frame

-- nothing yet
abbrev pub blank : St
blank = record { nodes = []; links = []; text = []; anchors = []; waiting = []; frames = [] }

-- the lengths of the five tables
pub record Lengths : Type 0 where
  pub nodes : ℕ
  pub links : ℕ
  pub text : ℕ
  pub anchors : ℕ
  pub waiting : ℕ

-- how much of each table is used: the code's own record, with the fields nodes, links, text, anchors and waiting
abbrev pub Spaces : Type 0
Spaces = TableSpaces

-- the smaller of a table's length and its limit
abbrev pub spaces_for : Lengths → Spaces
spaces_for l = record {
  nodes = min l.nodes 4096;
  links = min l.links 16384;
  text = min l.text 65536;
  anchors = min l.anchors 4096;
  waiting = min l.waiting 16384;
}
