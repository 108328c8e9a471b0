-- What the loader's code gives: its contract says that it equals the definition, so all of this holds of it.
use Rattle.std.specs.Prelude.{Ok, Some}
use Rattle.yaml.specs.Flow.{Flow}
use Rattle.yaml.specs.Flow.{Sound as Allowed}
use Rattle.document.specs.Check.{handed}
use Rattle.composer.specs.declared.stacks.Tables.{Tables}
use Rattle.composer.specs.Holding.{lengths_of}
use Rattle.loader.specs.declared.answer.Loaded.{Loaded}
use Rattle.loader.specs.declared.answer.Phase.{Phase}
use Rattle.loader.specs.Loading.{loading}
use Rattle.loader.specs.Loads.{Loads}
use Rattle.loads.specs.Standing.{Stands}
use Rattle.loads.specs.Loads.{GivenDocument}

-- the document, and that the tables, as they are, stand for it
pub record HoldsDocument (p : Phase) (f : Flow) (before : Tables) (l : Loaded) (after : Tables) : Type 0 where
  pub document : GivenDocument p f l (loading (lengths_of before) p f)
  pub stands : Stands (handed after.nodes.items.now after.links.items.now after.text.items.now l.nodes) (loading (lengths_of before) p f).holds

abbrev pub CodeGives : Type 0
CodeGives = (p p' : Phase) (f f' : Flow) (before after : Tables) (l : Loaded) → Allowed f → Loads p f before (Ok (Some l)) p' f' after → HoldsDocument p f before l after
