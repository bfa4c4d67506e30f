-- The windows end where every later one is too short.
use Rattle.std.proofs.Common.{◌+◌, ◌<◌, None, length, length-drop, ap, arith}
use Rattle.base.proofs.ByCases.{below_or_not}
use Rattle.blheli_telemetry.proofs.CaptureLaws.{short-window, is-first}
use Rattle.blheli_telemetry.proofs.capture.find_frame.Goals as goal

pub returns : goal.returns
returns c = let l = c.loop-start in
    let ended : length l.start-iterator.iter.rest.now < 10 = grind (
      arith,
      c.in-None.ensures.steps,
      l.invariant.size,
      c.windows.ensures.size,
      c.enumerate-start-items.ensures.source,
    ) in
    let end : length c.args.capture.now < l.start-iterator.count + 10 = omega (
      arith,
      ended,
      ap length l.invariant.rest,
      length-drop l.start-iterator.count c.args.capture.now,
    ) in
    is-first c.args.capture.now None
    (λ start e. below_or_not start l.start-iterator.count
    (λ before. l.invariant.none_before start before e)
    (λ behind. short-window c.args.capture.now start (omega (arith, end)) e))
