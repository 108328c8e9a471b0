-- The empty entry of a table of nodes: every field is zero.
use Rattle.model.specs.declared.Mark.{Mark}
use Rattle.document.specs.declared.node.Node.{Node}

abbrev pub zero_mark : Mark
zero_mark = record { index = 0; line = 0; column = 0 }

abbrev pub empty_node : Node
empty_node = record {
  kind = 0;
  style = 0;
  tag_length = 0;
  value_length = 0;
  filler = 0;
  tag_start = 0;
  value_start = 0;
  first_link = 0;
  link_count = 0;
  start = zero_mark;
  end = zero_mark;
}
