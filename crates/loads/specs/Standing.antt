-- What is loaded always stands as a document.
use Rattle.std.specs.Prelude.{◌≡◌, ℕ, ◌≤◌, true, List, ◌++◌, map, Option, Ok, Some}
use Rattle.model.specs.declared.Fault.{Fault}
use Rattle.model.specs.Events.{Ev, all_allowed}
use Rattle.model.specs.Reading.{Marked, bare}
use Rattle.document.specs.declared.node.Node.{Node}
use Rattle.document.specs.Books.{graph_of}
use Rattle.document.specs.Check.{Handed, handed, nodes_in, links_in, text_in, Fit}
use Rattle.composer.specs.State.{St, blank, Spaces}
use Rattle.loader.specs.declared.answer.Loaded.{Loaded}
use Rattle.loader.specs.Loading.{running}
use Rattle.loads.specs.Runs.{graph_in}

-- no more space than a document may take
pub record Limited (sp : Spaces) : Type 0 where
  pub nodes : sp.nodes ≤ 4096
  pub links : sp.links ≤ 16384
  pub text : sp.text ≤ 65536

-- tables that hold these entries first pass the check, and stand for the same graph
pub record Stands (h : Handed) (s : St) : Type 0 where
  pub fit : Fit h
  pub graph : graph_of (nodes_in h) (links_in h) (text_in h) ≡ graph_in s

abbrev pub LoadedStands : Type 0
LoadedStands = (sp : Spaces) (start : Marked) (after : Option Fault) (latest : Option Ev) (ms : List Marked) (l : Loaded) (vs : List Node) (ls ts : List ℕ)
    → Limited sp → all_allowed (map bare ms) ≡ true → (running sp start after latest blank ms).answer ≡ Ok (Some l)
    → Stands (handed ((running sp start after latest blank ms).holds.nodes ++ vs) ((running sp start after latest blank ms).holds.links ++ ls)
    ((running sp start after latest blank ms).holds.text ++ ts) l.nodes) (running sp start after latest blank ms).holds
