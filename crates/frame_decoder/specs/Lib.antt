pub mod DecoderView
