-- Plan bytes in a lent buffer. Document 02: "The plan's length comes back and bytes past it are zero, as wherever plan bytes are made".
use Rattle.std.specs.Prelude.{cond, List, ◌++◌, ℕ, ◌-◌, length, replicate, ltb}
use Rattle.records.specs.paper.Fields.{Verdict, fine, refused}
use Rattle.records.specs.paper.Plan.{Plan}
use Rattle.encoding.specs.paper.Encoded.{plan_bytes}

pub record Kept : Type 0 where
  -- the plan's length, or the refusal
  pub answer : Verdict ℕ
  -- every byte of the buffer
  pub bytes : List ℕ

-- 01: "result buffers are all zero" on a refusal
abbrev pub turned_away : ℕ → ℕ → ℕ → Kept
turned_away room number k = record { answer = refused number k; bytes = replicate room 0 }

-- bytes that fit, or the refusal of this number where they do not
unfoldable pub kept : ℕ → ℕ → List ℕ → Kept
kept room number t = cond (ltb room (length t)) (turned_away room number 0) (record { answer = fine (length t); bytes = t ++ replicate (room - length t) 0 })

-- a plan's bytes, or the refusal of the plan
unfoldable pub placed : ℕ → ℕ → Verdict Plan → Kept
placed room number (refused n k) = turned_away room n k
placed room number (fine P) = kept room number (plan_bytes P)
