-- A reader must believe: Cut (how a stream is cut into messages), Steps (what the calls do), Laws. Front serves private contracts and proofs alone.
pub mod Cut
pub mod Front
pub mod Laws
pub mod Steps
