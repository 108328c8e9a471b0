use Rattle.tables.specs.Stacks.{contents, room_of}
use Rattle.tables.proofs.Clean.{clean_shortened}
use Rattle.composer.specs.Names.{empty_anchor}
use Rattle.composer.proofs.stacks.Tables.forget.Goals as goal

pub returns : goal.returns
returns c =
    let t = c.args.self.now in
    let a = c.shorten.ensures in
    let w = c.shorten-2.ensures in
    record {
      state = λ i. record { nodes = contents t.nodes; links = contents t.links; text = contents t.text; anchors = a.holds i; waiting = w.holds i; frames = c.clear.ensures i };
      base = λ i. record {
        nodes = t.nodes.items.ghost_name;
        links = t.links.items.ghost_name;
        text = t.text.items.ghost_name;
        anchors = a.over.table i;
        waiting = w.over.table i;
        lengths = record { nodes = room_of t.nodes; links = room_of t.links; text = room_of t.text; anchors = a.over.room i; waiting = w.over.room i };
      };
      clean = λ k. record {
        nodes = k.nodes;
        links = k.links;
        text = k.text;
        anchors = clean_shortened empty_anchor t.anchors c.shorten.new.self 0 a k.anchors;
        waiting = clean_shortened 0 t.waiting c.shorten-2.new.self 0 w k.waiting;
      };
    }
