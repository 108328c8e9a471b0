-- What the tables of the code hold, as the plain lists of the definition, and what stays true of them while a document is composed.
use Rattle.std.specs.Prelude.{◌≡◌, ℕ, List, [], Ok, Err, Result}
use Rattle.std.specs.Borrow.{GName, MutBor}
use Rattle.tables.specs.declared.stack.Stack.{Stack}
use Rattle.tables.specs.Stacks.{contents, room_of, Clean, Made, SameTable}
use Rattle.document.specs.declared.node.Node.{Node}
use Rattle.document.specs.Empty.{empty_node}
use Rattle.composer.specs.declared.anchor.Anchor.{Anchor}
use Rattle.composer.specs.declared.stacks.Tables.{Tables}
use Rattle.composer.specs.declared.refusal.Refusal.{Refusal}
use Rattle.composer.specs.Names.{empty_anchor}
use Rattle.composer.specs.Opens.{opens}
use Rattle.composer.specs.declared.placed.Placed.{Placed}
use Rattle.yaml.specs.Shapes.{ev_of}
use Rattle.model.specs.declared.Mark.{Mark}
use Rattle.model.specs.Graph.{numbered}
use Rattle.composer.specs.Steps.{linked_at}
use Rattle.model.specs.Reading.{Marked}
use Rattle.composer.specs.State.{St, blank, Lengths, Spaces, spaces_for}

abbrev pub state_of : Tables → St
state_of t = record {
  nodes = contents t.nodes;
  links = contents t.links;
  text = contents t.text;
  anchors = contents t.anchors;
  waiting = contents t.waiting;
  frames = opens t.frames;
}

abbrev pub lengths_of : Tables → Lengths
lengths_of t = record { nodes = room_of t.nodes; links = room_of t.links; text = room_of t.text; anchors = room_of t.anchors; waiting = room_of t.waiting }

abbrev pub spaces_of : Tables → Spaces
spaces_of t = spaces_for (lengths_of t)

-- which tables they are, and how long
pub record Base : Type 0 where
  pub nodes : GName
  pub links : GName
  pub text : GName
  pub anchors : GName
  pub waiting : GName
  pub lengths : Lengths

abbrev pub base_of : Tables → Base
base_of t = record {
  nodes = t.nodes.items.ghost_name;
  links = t.links.items.ghost_name;
  text = t.text.items.ghost_name;
  anchors = t.anchors.items.ghost_name;
  waiting = t.waiting.items.ghost_name;
  lengths = lengths_of t;
}

-- they stand over these tables, and hold nothing yet
pub record Standing (nodes : MutBor (List Node)) (links : MutBor (List ℕ)) (text : MutBor (List ℕ)) (anchors : MutBor (List Anchor)) (waiting : MutBor (List ℕ)) (t : Tables) : Type 0 where
  pub nodes_made : Made nodes t.nodes
  pub links_made : Made links t.links
  pub text_made : Made text t.text
  pub anchors_made : Made anchors t.anchors
  pub waiting_made : Made waiting t.waiting
  pub none_open : opens t.frames ≡ []

-- every table is clean past what it holds
pub record AllClean (t : Tables) : Type 0 where
  pub nodes : Clean empty_node t.nodes
  pub links : Clean 0 t.links
  pub text : Clean 0 t.text
  pub anchors : Clean empty_anchor t.anchors
  pub waiting : Clean 0 t.waiting

-- every entry of every table is empty
pub record Emptied (before after : Tables) : Type 0 where
  pub state : state_of after ≡ blank
  pub base : base_of after ≡ base_of before
  pub clean : AllClean after

-- only the document itself is left: anchors and waiting children are gone, and nothing is open
pub record Forgot (before after : Tables) : Type 0 where
  pub state : state_of after ≡ record { nodes = contents before.nodes; links = contents before.links; text = contents before.text; anchors = []; waiting = []; frames = [] }
  pub base : base_of after ≡ base_of before
  pub clean : AllClean before → AllClean after

-- what was told to happen did
pub record Done (told : Result St Refusal) (before after : Tables) : Type 0 where
  pub state : told ≡ Ok (state_of after)
  pub base : base_of after ≡ base_of before
  pub clean : AllClean before → AllClean after

-- it was refused as told; what the tables hold is not said
pub record Denied (told : Result St Refusal) (e : Refusal) (before after : Tables) : Type 0 where
  pub why : told ≡ Err e
  pub base : base_of after ≡ base_of before

abbrev pub Does : Result St Refusal → Tables → Result (Unit {0}) Refusal → Tables → Type 0
Does told before (Ok u) after = Done told before after
Does told before (Err e) after = Denied told e before after

-- the event of the code's records
abbrev pub marked : Placed → Marked
marked p = record { event = ev_of p.event; start = p.start; end = p.end }

-- the node of a number got its links and its end, if there is one
pub record Relinked (before : Stack Node) (number first count : ℕ) (end : Mark) (after : Stack Node) : Type 0 where
  pub holds : contents after ≡ linked_at (contents before) number (numbered (contents before) number) first count end
  pub clean : Clean empty_node before → Clean empty_node after
  pub over : SameTable before after
