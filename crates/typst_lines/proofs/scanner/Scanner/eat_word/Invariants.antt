use Rattle.typst_lines.proofs.Cited.{◌≡◌, drop, moved, word_at, place}
use Rattle.typst_lines.proofs.scanner.Scanner.eat_word.Given as goal

abbrev pub invariant-loop-b : goal.invariant-loop-b
invariant-loop-b l =
    record {
      word : word_at 0 l.word (place l.fn.self) ≡ word_at l.b-index (drop l.b-index l.word) (place l.fn.self);
      moved : place l.ahead ≡ moved l.b-index (place l.fn.self);
      same_text : l.ahead.text.now ≡ l.fn.self.text.now;
    }
