-- `esi_in`: one octet more, and the octets that stand at the end. The check proves the rest.
use Rattle.std.proofs.Common.{◌≡◌, ◌∙◌, arith, sym, replicate, append-nil}
use Rattle.octets.proofs.Laws.{front-next, front-all}
use Rattle.esi.specs.Text.{esi_in}
use Rattle.esi.proofs.Places.{length-esi, get_d-esi}
use Rattle.esi.proofs.esi_in.Goals as goal

pub loop-k-preserved : goal.loop-k-preserved
loop-k-preserved c =
    let t = c.args.text.now in
    let k = c.loop-k.k in
    let octet = c.octet_at.ensures ∙ sym (get_d-esi t k (omega arith)) in
    rw (c.loop-k.invariant, octet) (front-next (replicate 10 0) (esi_in t) k (omega arith) (rw (length-esi t) (omega arith)))

pub returns : goal.returns
returns c =
    let t = c.args.text.now in
    let all : c.loop-k.k ≡ 10 = omega arith in
    c.loop-k.invariant ∙ rw all (front-all (replicate 10 0) (esi_in t) 10 (length-esi t)) ∙ append-nil (esi_in t)
