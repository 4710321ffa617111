-- `row::row_at`: field after field; each starts where the one before ends.
use native.Mathlib.Omega.{arith}
use lib.ListN.{drop}
use Rattle.spreadsheet.specs.code.FieldSeen.{clean_at, between}
use Rattle.spreadsheet.proofs.RowLaws.{row_one, row_two, row_three, row_last, row-four, found_text, found_within, found_past, found_odd}
use Rattle.spreadsheet.proofs.row.row_at.Goals as goal

pub returns-in_default : goal.returns-in_default
returns-in_default c =
    let a = c.args in
    let s = a.s.now in
    (row_one clean_at (drop a.at s) (found_odd s c.cell_at.result _ c.in_default.is c.cell_at.ensures.0), tt)

pub cell_at-requires-2 : goal.cell_at-requires-2
cell_at-requires-2 c =
    let a = c.args in
    let s = a.s.now in
    let v0 = c.in-Text in
    let n0 = v0.a in
    let r0 = c.cell_at in
    let w0 = found_within s a.at r0.result v0.k v0.k_end n0 v0.is r0.ensures.1.0 in
    omega (arith, w0)

pub returns-in_default-cell_at : goal.returns-in_default-cell_at
returns-in_default-cell_at c =
    let a = c.args in
    let s = a.s.now in
    let v0 = c.in-Text in
    let n0 = v0.a in
    let r0 = c.cell_at in
    let e0 = found_text s a.at r0.result v0.k v0.k_end n0 v0.is _ r0.ensures.0 in
    (row_two clean_at (drop a.at s) (between s v0.k v0.k_end) (drop n0 s) e0 (found_odd s c.cell_at-2.result _ c.in_default-cell_at.is c.cell_at-2.ensures.0), tt)

pub cell_at-requires-3 : goal.cell_at-requires-3
cell_at-requires-3 c =
    let a = c.args in
    let s = a.s.now in
    let v0 = c.in-Text in
    let n0 = v0.a in
    let v1 = c.in-Text-cell_at in
    let n1 = v1.b in
    let r1 = c.cell_at-2 in
    let w1 = found_within s n0 r1.result v1.l v1.l_end n1 v1.is r1.ensures.1.0 in
    omega (arith, w1)

pub returns-in_default-cell_at-2 : goal.returns-in_default-cell_at-2
returns-in_default-cell_at-2 c =
    let a = c.args in
    let s = a.s.now in
    let v0 = c.in-Text in
    let n0 = v0.a in
    let r0 = c.cell_at in
    let e0 = found_text s a.at r0.result v0.k v0.k_end n0 v0.is _ r0.ensures.0 in
    let v1 = c.in-Text-cell_at in
    let n1 = v1.b in
    let r1 = c.cell_at-2 in
    let e1 = found_text s n0 r1.result v1.l v1.l_end n1 v1.is _ r1.ensures.0 in
    (row_three clean_at (drop a.at s) (between s v0.k v0.k_end) (drop n0 s) e0 (between s v1.l v1.l_end) (drop n1 s) e1 (found_odd s c.cell_at-3.result _ c.in_default-cell_at-2.is c.cell_at-3.ensures.0), tt)

pub last_at-requires : goal.last_at-requires
last_at-requires c =
    let a = c.args in
    let s = a.s.now in
    let v1 = c.in-Text-cell_at in
    let n1 = v1.b in
    let v2 = c.in-Text-cell_at-2 in
    let n2 = v2.d in
    let r2 = c.cell_at-3 in
    let w2 = found_within s n1 r2.result v2.r v2.r_end n2 v2.is r2.ensures.1.0 in
    omega (arith, w2)

pub returns-in_default-last_at : goal.returns-in_default-last_at
returns-in_default-last_at c =
    let a = c.args in
    let s = a.s.now in
    let v0 = c.in-Text in
    let n0 = v0.a in
    let r0 = c.cell_at in
    let e0 = found_text s a.at r0.result v0.k v0.k_end n0 v0.is _ r0.ensures.0 in
    let v1 = c.in-Text-cell_at in
    let n1 = v1.b in
    let r1 = c.cell_at-2 in
    let e1 = found_text s n0 r1.result v1.l v1.l_end n1 v1.is _ r1.ensures.0 in
    let v2 = c.in-Text-cell_at-2 in
    let n2 = v2.d in
    let r2 = c.cell_at-3 in
    let e2 = found_text s n1 r2.result v2.r v2.r_end n2 v2.is _ r2.ensures.0 in
    (row_last clean_at (drop a.at s) (between s v0.k v0.k_end) (drop n0 s) e0 (between s v1.l v1.l_end) (drop n1 s) e1 (between s v2.r v2.r_end) (drop n2 s) e2 (found_odd s c.last_at.result _ c.in_default-last_at.is c.last_at.ensures.0), tt)

pub returns : goal.returns
returns c =
    let a = c.args in
    let s = a.s.now in
    let v0 = c.in-Text in
    let n0 = v0.a in
    let r0 = c.cell_at in
    let w0 = found_within s a.at r0.result v0.k v0.k_end n0 v0.is r0.ensures.1.0 in
    let p0 = found_past s a.at r0.result v0.k v0.k_end n0 v0.is r0.ensures.1.1 in
    let e0 = found_text s a.at r0.result v0.k v0.k_end n0 v0.is _ r0.ensures.0 in
    let v1 = c.in-Text-cell_at in
    let n1 = v1.b in
    let r1 = c.cell_at-2 in
    let w1 = found_within s n0 r1.result v1.l v1.l_end n1 v1.is r1.ensures.1.0 in
    let p1 = found_past s n0 r1.result v1.l v1.l_end n1 v1.is r1.ensures.1.1 in
    let e1 = found_text s n0 r1.result v1.l v1.l_end n1 v1.is _ r1.ensures.0 in
    let v2 = c.in-Text-cell_at-2 in
    let n2 = v2.d in
    let r2 = c.cell_at-3 in
    let w2 = found_within s n1 r2.result v2.r v2.r_end n2 v2.is r2.ensures.1.0 in
    let p2 = found_past s n1 r2.result v2.r v2.r_end n2 v2.is r2.ensures.1.1 in
    let e2 = found_text s n1 r2.result v2.r v2.r_end n2 v2.is _ r2.ensures.0 in
    let v3 = c.in-Text-last_at in
    let n3 = v3.next in
    let r3 = c.last_at in
    let w3 = found_within s n2 r3.result v3.c v3.c_end n3 v3.is r3.ensures.1 in
    let e3 = found_text s n2 r3.result v3.c v3.c_end n3 v3.is _ r3.ensures.0 in (
      row-four clean_at (drop a.at s) (between s v0.k v0.k_end) (drop n0 s) e0 (between s v1.l v1.l_end) (drop n1 s) e1 (between s v2.r v2.r_end) (drop n2 s) e2 (between s v3.c v3.c_end) (drop n3 s) e3,
      (record { kind = (omega (arith, w0), omega (arith, w0)); left = (omega (arith, w1), omega (arith, w1)); right = (omega (arith, w2), omega (arith, w2)); citation = (omega (arith, w3), omega (arith, w3)); next = omega (arith, w3) }, omega (arith, p0, p1, p2, w3)),
    )
