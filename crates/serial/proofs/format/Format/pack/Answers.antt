use Rattle.std.proofs.Common.{sym, ap, ◌∙◌, subst}
use Rattle.serial.specs.Frame.{packed, FrameLaw}
use Rattle.serial.proofs.Frames.{masked, frame_law}
use Rattle.serial.proofs.format.Format.pack.Goals as goal

pub returns : goal.returns
returns c =
    let x = c.args.self in
    let e = masked x _ _ _ _ _ _ c.requires c.from.ensures (c.from-2.ensures ∙ c.check_bit-parity.ensures) c.count.ensures c.count-2.ensures c.stop_at.ensures in
    record { is = e; law = λ w h. subst (FrameLaw x w) (sym (e ∙ ap (packed x) h)) (frame_law x w) }
