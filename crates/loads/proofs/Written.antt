-- Loading what was serialized.
use Rattle.std.proofs.Common.{ℕ, List, ◌++◌, map, sym, ap, ◌∙◌, subst, arith}
use Rattle.std.proofs.lemmas.List.{append_assoc}
use Rattle.model.specs.Events.{all_allowed}
use Rattle.model.specs.Graph.{Book}
use Rattle.model.specs.Reading.{bare}
use Rattle.serial.specs.Walk.{Token, Walk}
use Rattle.serial.specs.Serialize.{walk_events}
use Rattle.serial.specs.Compose.{TakesAll, beginning, Composes}
use Rattle.serial.specs.RoundTrip.{Sound, Tells}
use Rattle.serial.proofs.Paths.{round_trip}
use Rattle.serial.proofs.Stocks.{counting, bounds_kept}
use Rattle.serial.proofs.Unique.{takes_split}
use Rattle.composer.specs.State.{Spaces}
use Rattle.loads.specs.Room.{EventsFit}
use Rattle.loads.specs.Written.{SpaceFor, WalkLoads, WalkStops}
use Rattle.loads.proofs.Running.{allowed_append}
use Rattle.loads.proofs.Exactly.{composed_loads, stops_within}

walk_fits : (sp : Spaces) (b : Book) (ts : List Token) (seen : List ℕ) (anchors : ℕ → List ℕ) → Sound b.nodes → Walk b.nodes 256 ts seen → Tells anchors ts → SpaceFor sp b.nodes
    → EventsFit sp (walk_events anchors b.nodes ts)
walk_fits sp b ts seen anchors sound walk tells space done later c taken parts =
    let r = round_trip b 256 ts seen anchors sound walk tells in
    let n = counting b.nodes 256 ts seen anchors r.back sound walk tells r.composes in
    let k = bounds_kept b.nodes 256 ts seen anchors done later c sound walk tells taken parts in
    record {
      nodes = omega (arith, k.nodes_few, n.nodes, n.no_more_nodes, space.nodes);
      text = omega (arith, k.text_few, n.text, n.no_more_text, space.text);
      names = omega (arith, k.names_few, n.nodes, n.no_more_nodes, space.anchors);
      links = omega (arith, k.links_few, n.links_are_met, n.no_more_links, space.links);
      waits = omega (arith, k.links_few, n.links_are_met, n.no_more_links, space.waits);
      opens = omega (arith, k.open_few);
    }

pub walk_loads : WalkLoads
walk_loads sp start after latest es rest last b ts seen anchors sound walk tells space ok is ends =
    let r = round_trip b 256 ts seen anchors sound walk tells in
    let fit = walk_fits sp b ts seen anchors sound walk tells space in
    record {
      back = r.back;
      alike = r.alike;
      loaded = composed_loads sp start after latest es rest last r.back (ap all_allowed is ∙ ok) (subst (λ l. Composes l r.back) (sym is) r.composes) (subst (EventsFit sp) (sym is) fit) ends;
    }

pub walk_stops : WalkStops
walk_stops sp start after latest es later b ts seen anchors sound walk tells space ok is =
    let r = round_trip b 256 ts seen anchors sound walk tells in
    let fit = walk_fits sp b ts seen anchors sound walk tells space in
    let c : TakesAll beginning (map bare es ++ later) r.composes.end_state = subst (λ l. TakesAll beginning l r.composes.end_state) (sym is) r.composes.taken_in in
    let p = takes_split (map bare es) later c in
    stops_within sp start after latest es p.0 (allowed_append (map bare es) later (ap all_allowed is ∙ ok)).0 p.1
    (λ done more c taken parts. fit done (more ++ later) c taken (sym (append_assoc done more later) ∙ ap (λ l. l ++ later) parts ∙ is))
