-- The numbers of the check's questions; a question with a smaller number is asked first.
use Rattle.std.specs.Prelude.{ℕ}
use Rattle.document.specs.declared.refusal.Question.{Question}
use Rattle.document.specs.declared.refusal.Question.TheVariants.{Count, Kind, Tag, Value, Links, Sums}

abbrev pub question_number : Question → ℕ
question_number Count = 41
question_number Kind = 42
question_number Tag = 43
question_number Value = 44
question_number Links = 45
question_number Sums = 46
