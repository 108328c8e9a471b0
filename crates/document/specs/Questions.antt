-- The questions that are asked of each node of a document, and of all of them together.
use Rattle.std.specs.Prelude.{ℕ, ◌+◌, ◌%◌, Bool, false, cond, not, ◌&&◌, ◌||◌, List, [], ◌∷◌, length, take, drop, sum_by, ◌==◌, nat_le}
use Rattle.std.specs.List.{list_all}
use Rattle.model.specs.Events.{zero_free}
use Rattle.document.specs.declared.node.Node.{Node}

-- the part of a table that begins at a place, from 0, and has n entries
abbrev pub part : {X : Type 0} → List X → ℕ → ℕ → List X
part xs place n = take n (drop place xs)

-- it lies in the table
abbrev pub lies : {X : Type 0} → List X → ℕ → ℕ → Bool
lies xs place n = nat_le (place + n) (length xs)

-- 42: a scalar has style 0 to 5, a sequence or a mapping 0 to 2
abbrev pub kind_right : Node → Bool
kind_right v = (v.kind == 1 && nat_le v.style 5) || ((v.kind == 2 || v.kind == 3) && nat_le v.style 2)

-- the one byte `!`
abbrev pub bang : List ℕ → Bool
bang [] = false
bang (b ∷ []) = b == 33
bang (b ∷ (c ∷ bs)) = false

abbrev pub tag_of : List ℕ → Node → List ℕ
tag_of text v = part text v.tag_start v.tag_length

abbrev pub value_of : List ℕ → Node → List ℕ
value_of text v = part text v.value_start v.value_length

abbrev pub links_of : List ℕ → Node → List ℕ
links_of links v = part links v.first_link v.link_count

-- 43: 1 to 256 bytes of the text, none of them zero, and not `!` alone
abbrev pub tag_right : List ℕ → Node → Bool
tag_right text v =
    nat_le 1 v.tag_length && (nat_le v.tag_length 256 && (lies text v.tag_start v.tag_length
    && (zero_free (tag_of text v) && not (bang (tag_of text v)))))

-- 44: a scalar's value is at most 4,096 bytes of the text; a collection has none
abbrev pub value_right : List ℕ → Node → Bool
value_right text v =
    cond (v.kind == 1)
    (nat_le v.value_length 4096 && lies text v.value_start v.value_length)
    (v.value_start == 0 && v.value_length == 0)

-- from 1 to n
abbrev pub names : ℕ → ℕ → Bool
names n link = nat_le 1 link && nat_le link n

-- 45: a collection's links are entries of the table, each the number of a node, a mapping's an even number; a scalar has none
abbrev pub links_right : ℕ → List ℕ → Node → Bool
links_right n links v =
    cond (v.kind == 1)
    (v.first_link == 0 && v.link_count == 0)
    (lies links v.first_link v.link_count && ((not (v.kind == 3) || v.link_count % 2 == 0) && list_all (names n) (links_of links v)))

abbrev pub link_count : Node → ℕ
link_count v = v.link_count

abbrev pub text_length : Node → ℕ
text_length v = v.tag_length + v.value_length

abbrev pub link_total : List Node → ℕ
link_total vs = sum_by link_count vs

abbrev pub text_total : List Node → ℕ
text_total vs = sum_by text_length vs

-- 46: at most 16,384 links and 65,536 bytes of text
abbrev pub sums_right : List Node → Bool
sums_right vs = nat_le (link_total vs) 16384 && nat_le (text_total vs) 65536
