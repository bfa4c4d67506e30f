-- What a stream of the code stands for.
use Rattle.hex_lines.specs.HeldLine.{held_characters}
use Rattle.unit_text.specs.Stream.{Streamed, Taken}
use Rattle.unit_text.specs.declared.stream.Stream.{Stream}
use Rattle.unit_text.specs.declared.stream.Fed.{Fed}

abbrev pub streamed : Stream → Streamed
streamed s = record { unit = s.unit; line = held_characters s.line }

abbrev pub fed : Fed → Taken
fed f = record { stream = streamed f.stream; used = f.used; written = f.written }
