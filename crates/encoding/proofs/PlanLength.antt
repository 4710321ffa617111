-- No sound plan has more bytes than all its records at their longest.
use mathlib.Core.Path.{◌≡◌, refl, ap, ◌∙◌, subst}
use mathlib.Core.Bool.{Bool, true, false, cond}
use mathlib.Core.List.{List, [], ◌∷◌, ◌++◌, map, flat_map}
use Prim.Native.Nat.{ℕ, zero, suc, ◌+◌, ◌*◌, ◌/◌, ◌%◌, ◌≤◌, zero-le, suc-le-suc}
use native.Mathlib.Nat.{le_trans}
use native.Mathlib.Omega.{arith}
use lib.ListN.{length, length-append}
use lib.Dec.{lit≤}
use Rattle.sets.specs.paper.Sets.{odd, sum_of, All}
use Rattle.sets.proofs.Every.{all_then}
use Rattle.records.specs.paper.Fields.{Range, number, Shape, bytes, list, most, repeat, Format, format_of, Raw}
use Rattle.records.specs.paper.Plan.{Plan, Node, literal, fact, conj, disj, neg, plan_formats}
use Rattle.records.specs.promises.Sound.{SoundHeading, SoundFact, SoundEdge, SoundCut, SoundAttachment, SoundBar, SoundStatus, Sound}
use Rattle.records.proofs.FieldLaws.{Ranged}
use Rattle.records.proofs.UsedLaws.{flat_append}
use Rattle.encoding.specs.paper.Encoded.{bits_of, field_bytes, fields_bytes, record_bytes, heading_raw, fact_raw, node_parts, node_raw, edge_raw, cut_raw, attachment_raw, bar_raw, status_raw, raws_of, plan_bytes}
use Rattle.encoding.proofs.RecordBack.{FieldFits, FitsIf, FieldsFit, Fits}
use Rattle.encoding.proofs.FlatLaws.{flat_map_lem, flat_most}
use Rattle.encoding.proofs.KindsBack.{NodeFits, nodes-fit, heading-written, fact-written, node_written, edge-written, cut-written, attachment-written, bar-written, status-written}

-- ---- fields

abbrev width : Shape → ℕ
width (bytes rs) = length rs
width (list n rs) = suc (length (repeat n rs))
width most = 2

ranged_long : (rs : List Range) (v : List ℕ) → Ranged rs v → length v ≡ length rs
ranged_long [] [] h = refl
ranged_long [] (b ∷ bs) h = absurd h
ranged_long (r ∷ rs) [] h = absurd h
ranged_long (r ∷ rs) (b ∷ bs) h = ap suc (ranged_long rs bs h.1)

repeat-long : (rs : List Range) (k n : ℕ) → k ≤ n → length (repeat k rs) ≤ length (repeat n rs)
unfolding repeat
repeat-long rs zero n l = zero-le
repeat-long rs (suc k) zero l = absurd (omega arith)
repeat-long rs (suc k) (suc n) l =
    let h = repeat-long rs k n (omega arith) in
    let a = length-append rs (repeat k rs) in
    let b = length-append rs (repeat n rs) in
    omega arith

field-short : (f : Shape) (v : List ℕ) → FieldFits f v → length (field_bytes f v) ≤ width f
unfolding field_bytes
field-short (bytes rs) v h = let e = ranged_long rs v h in omega arith
field-short (list n rs) v h = let e = ranged_long (repeat h.0 rs) v h.3 in let l = repeat-long rs h.0 n h.1 in let m : length v ≤ length (repeat n rs) = omega arith in suc-le-suc m
field-short most v h = let e = ranged_long (number ∷ number ∷ []) v h.0 in omega arith

-- those whose bit stands
abbrev widths : ℕ → List Shape → ℕ
widths bits [] = 0
widths bits (f ∷ fs) = cond (odd (bits % 2)) (width f) 0 + widths (bits / 2) fs

fields-short : (bits : ℕ) (fs : List Shape) (vs : List (List ℕ)) → FieldsFit bits fs vs → length (fields_bytes bits fs vs) ≤ widths bits fs
unfolding fields_bytes
fields-short bits [] vs h = zero-le
fields-short bits (f ∷ fs) [] h = absurd h
fields-short bits (f ∷ fs) (v ∷ vs) h =
    let a = length-append (cond (odd (bits % 2)) (field_bytes f v) []) (fields_bytes (bits / 2) fs vs) in
    let b = pick (odd (bits % 2)) h.0 in
    let c = fields-short (bits / 2) fs vs h.1 in
    omega arith
  where
    pick : (b : Bool) → FitsIf b f v → length (cond b (field_bytes f v) []) ≤ cond b (width f) 0
    pick true e = field-short f v e
    pick false e = zero-le

record_short : (fs : List Format) (r : Raw) → Fits fs r → length (record_bytes fs r) ≤ suc (suc (widths r.bits (format_of fs r.kind).fields))
unfolding record_bytes
record_short fs r h = let l = fields-short r.bits (format_of fs r.kind).fields r.fields h.fields in suc-le-suc (suc-le-suc l)

widths_most : (bits : ℕ) (fs : List Shape) → widths bits fs ≤ sum_of width fs
unfolding sum_of
widths_most bits [] = zero-le
widths_most bits (f ∷ fs) = let l = widths_most (bits / 2) fs in let p = pick (odd (bits % 2)) in omega arith
  where
    pick : (b : Bool) → cond b (width f) 0 ≤ width f
    pick true = omega arith
    pick false = zero-le

-- ---- records

abbrev long : Raw → ℕ
long r = length (record_bytes plan_formats r)

whole-short : (r : Raw) → Fits plan_formats r → long r ≤ suc (suc (sum_of width (format_of plan_formats r.kind).fields))
whole-short r h = let a = record_short plan_formats r h in let b = widths_most r.bits (format_of plan_formats r.kind).fields in omega arith

-- a node has just one bit
node_short : (n : Node) → NodeFits n → long (node_raw n) ≤ 19
unfolding plan_formats bits_of node_parts repeat
node_short (literal b) s = le_trans (record_short plan_formats (node_raw (literal b)) (node_written (literal b) s).fits) (lit≤ tt)
node_short (fact f) s = le_trans (record_short plan_formats (node_raw (fact f)) (node_written (fact f) s).fits) (lit≤ tt)
node_short (conj is) s = le_trans (record_short plan_formats (node_raw (conj is)) (node_written (conj is) s).fits) (lit≤ tt)
node_short (disj is) s = le_trans (record_short plan_formats (node_raw (disj is)) (node_written (disj is) s).fits) (lit≤ tt)
node_short (neg i) s = le_trans (record_short plan_formats (node_raw (neg i)) (node_written (neg i) s).fits) (lit≤ tt)

-- ---- kind after kind

pub kind-short : {A : Type 0} (raw : A → Raw) (Ok : A → Type 0) (c : ℕ) → ((x : A) → Ok x → long (raw x) ≤ c) → (xs : List A) → All Ok xs
    → length (flat_map (record_bytes plan_formats) (map raw xs)) ≤ length xs * c
kind-short raw Ok c each xs h =
    subst (λ (t : List ℕ). length t ≤ length xs * c) (flat_map_lem (record_bytes plan_formats) raw xs)
    (flat_most (λ x. record_bytes plan_formats (raw x)) c xs (all_then Ok (λ x. long (raw x) ≤ c) each xs h))

pub both-short : (xs ys : List Raw) (n m : ℕ) → length (flat_map (record_bytes plan_formats) xs) ≤ n → length (flat_map (record_bytes plan_formats) ys) ≤ m
    → length (flat_map (record_bytes plan_formats) (xs ++ ys)) ≤ n + m
both-short xs ys n m h k =
    let e = ap length (flat_append (record_bytes plan_formats) xs ys) ∙ length-append (flat_map (record_bytes plan_formats) xs) (flat_map (record_bytes plan_formats) ys) in
    omega arith

-- A SOUND PLAN IS SHORT: a heading of 4 bytes, 64 facts of 8, 256 nodes of 19, 64 edges of 23, 16 cuts of 162, 32 attachments of 18, 32 bars
-- of 12, 32 statuses of 5
pub sound-short : (P : Plan) → Sound P → length (plan_bytes P) ≤ 10564
unfolding plan_bytes raws_of plan_formats repeat sum_of
sound-short P S =
    let a = S.heading in let b = S.fact_limit in let c = S.node_limit in let d = S.edge_limit in
    let e = S.cut_limit in let f = S.attachment_limit in let g = S.bar_limit in let h = S.status_limit in
    le_trans
    (both-short _ _ _ _ (kind-short heading_raw SoundHeading 4 (λ x s. whole-short (heading_raw x) (heading-written x s).fits) P.headings S.headings)
    (both-short _ _ _ _ (kind-short fact_raw SoundFact 8 (λ x s. whole-short (fact_raw x) (fact-written x s).fits) P.facts S.facts)
    (both-short _ _ _ _ (kind-short node_raw NodeFits 19 node_short P.nodes (nodes-fit P S))
    (both-short _ _ _ _ (kind-short edge_raw (SoundEdge P) 23 (λ x s. whole-short (edge_raw x) (edge-written P S x s).fits) P.edges S.edges)
    (both-short _ _ _ _ (kind-short cut_raw (SoundCut P) 162 (λ x s. whole-short (cut_raw x) (cut-written P S x s).fits) P.cuts S.cuts)
    (both-short _ _ _ _ (kind-short attachment_raw (SoundAttachment P) 18 (λ x s. whole-short (attachment_raw x) (attachment-written P S x s).fits) P.attachments S.attachments)
    (both-short _ _ _ _ (kind-short bar_raw (SoundBar P) 12 (λ x s. whole-short (bar_raw x) (bar-written P S x s).fits) P.bars S.bars)
    (kind-short status_raw (SoundStatus P) 5 (λ x s. whole-short (status_raw x) (status-written P S x s).fits) P.statuses S.statuses))))))))
    (omega arith)
