-- No window before the next one is good; the windows end where every later one is too short.
use Rattle.std.proofs.Common.{◌≡◌, ◌≤◌, length, drop}
use Rattle.blheli_telemetry.specs.Capture.{NoneBefore}
use Rattle.blheli_telemetry.proofs.capture.find_frame.Given as goal

abbrev pub invariant-loop-start : goal.invariant-loop-start
invariant-loop-start l = record {
  size : l.start-iterator.iter.size ≡ l.initial.start-iterator.iter.size;
  within : l.start-iterator.count ≤ length l.capture;
  rest : l.start-iterator.iter.rest.now ≡ drop l.start-iterator.count l.capture;
  none_before : NoneBefore l.capture l.start-iterator.count;
}
