-- Read in this order: laws on each definition, in the order of specs/; then what holds of them: framing by the bytes held, reading and
-- writing a frame, document 01's cases, those of the capture search.
pub mod CrcTable
pub mod FrameLaws
pub mod ParserLaws
pub mod CaptureLaws
pub mod StreamLaws
pub mod RoundTrip
pub mod Cases
pub mod CaptureCases
