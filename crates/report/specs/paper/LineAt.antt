-- Lines as they are read out of a buffer. Document 01, "Line and event": "Each line is written into the rest of the lent buffer, 29 bytes".
use Rattle.std.specs.Prelude.{List, [], ◌∷◌, ℕ, zero, suc, ◌*◌, get_or, take, drop}
use Rattle.records.specs.paper.Fields.{little}
use Rattle.report.specs.paper.Line.{Line, line_length}

-- the bytes of line k
unfoldable pub line_at : List ℕ → ℕ → List ℕ
line_at s k = take line_length (drop (line_length * k) s)

-- the line that so many bytes stand for
unfoldable pub decoded : List ℕ → Line
decoded b = record {
  person = get_or b 0 0;
  kind = get_or b 1 0;
  role = get_or b 2 0;
  block = little (take 8 (drop 3 b));
  open_facts = little (take 8 (drop 11 b));
  open_decisions = little (take 2 (drop 19 b));
  citations = little (take 8 (drop 21 b));
}

-- n lines, from line k on
unfoldable pub lines_from : List ℕ → ℕ → ℕ → List Line
lines_from s k zero = []
lines_from s k (suc n) = decoded (line_at s k) ∷ lines_from s (suc k) n
